-- The result is `may_set l r clr`.
use Rattle.labels.specs.Decisions.{◌and◌}
use Rattle.rules.specs.Modules.{may_set}
use Rattle.modules.proofs.may_set.Goals as goal

pub returns : goal.returns
unfolding may_set ◌and◌
returns c = rw (c.at_most-3.ensures, c.at_most-2.ensures, c.at_most.ensures)
