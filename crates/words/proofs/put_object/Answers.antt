-- A live object is told by its kind, its level, its category, its data type and its flags.
use borrow.Author.Tests.{eq-eqb}
use Rattle.text.specs.Laws.Puts.{◌▹◌}
use Rattle.words.proofs.put_object.Goals as goal

pub returns-then-o-eq1 : goal.returns-then-o-eq1
returns-then-o-eq1 c = rw (eq-eqb _ 1 c.if-o-eq1.true) (c.put_filled.ensures ▹ c.put_flags.ensures ▹ c.text.ensures)
