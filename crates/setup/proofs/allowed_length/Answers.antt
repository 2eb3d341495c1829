-- The tests as they stand in the definition.
use mathlib.Core.Path.{refl}
use Rattle.labels.specs.Decisions.{◌and◌}
use Rattle.rules.specs.Setup.{allowed_length}
use Rattle.setup.proofs.allowed_length.Goals as goal

pub returns : goal.returns
unfolding allowed_length ◌and◌
returns c = refl
