-- The result is `signalled v`.
use Rattle.labels.specs.Decisions.{◌and◌}
use Rattle.rules.specs.Modules.{signalled}
use Rattle.modules.proofs.signalled.Goals as goal

pub returns-then-v : goal.returns-then-v
unfolding signalled ◌and◌
returns-then-v c = rw (c.read_mark_raised.ensures, c.if-v.true)

pub returns : goal.returns
unfolding signalled ◌and◌
returns c = rw c.if-v.false
