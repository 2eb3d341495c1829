-- The result is `moved_by k v`.
use Rattle.labels.specs.Decisions.{◌and◌}
use Rattle.modules.specs.Parts.{moved_by}
use Rattle.modules.proofs.moved.Goals as goal

pub returns-then-v : goal.returns-then-v
unfolding moved_by ◌and◌
returns-then-v c = rw (c.move_by.ensures, c.if-v.true)

pub returns : goal.returns
unfolding moved_by ◌and◌
returns c = rw c.if-v.false
