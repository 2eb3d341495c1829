-- Nothing is asked, or that a set has a level.
use Rattle.labels.specs.Decisions.{◌or◌}
use Rattle.setup.proofs.also_allowed.Goals as goal

pub returns-in-SetNeedsLevel : goal.returns-in-SetNeedsLevel
unfolding ◌or◌
returns-in-SetNeedsLevel c = rw c.in-SetNeedsLevel.is
