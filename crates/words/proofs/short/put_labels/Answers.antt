-- A process that runs is told by its labels.
use borrow.Author.Tests.{ne_eqb}
use Rattle.words.proofs.short.put_labels.Goals as goal

pub returns : goal.returns
returns c = rw (ne_eqb _ 1 c.if-r-eq1.false) c.text.ensures
