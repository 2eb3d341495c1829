-- A byte is a sign where the tests say so.
use borrow.Author.Tests.{ne_eqb}
use Rattle.labels.specs.Decisions.{◌and◌, ◌or◌}
use Rattle.words.proofs.signs.Goals as goal

pub returns-then-low-high : goal.returns-then-low-high
unfolding ◌and◌ ◌or◌
returns-then-low-high c = rw (ne_eqb _ 42 c.if-x-eq42.false, c.if-low-high.true)

pub returns : goal.returns
unfolding ◌and◌ ◌or◌
returns c = rw (ne_eqb _ 42 c.if-x-eq42.false, c.if-low-high.false)
