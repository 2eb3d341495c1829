-- The result is `in_directory kind`.
use mathlib.Core.Path.{refl}
use Rattle.labels.specs.Decisions.{◌or◌}
use Rattle.requests.proofs.in_directory.Goals as goal

pub returns : goal.returns
unfolding ◌or◌
returns c = refl
