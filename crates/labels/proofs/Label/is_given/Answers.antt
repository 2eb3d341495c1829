-- The result is `given self`.
use mathlib.Core.Path.{refl}
use Rattle.labels.specs.Labels.{given}
use Rattle.labels.proofs.Label.is_given.Goals as goal

pub returns : goal.returns
unfolding given
returns c = refl
