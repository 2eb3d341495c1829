-- What failed, field by field.
use mathlib.Core.Path.{refl}
use Rattle.labels.specs.Decisions.{◌and◌}
use Rattle.reasons.specs.Reasons.{unless}
use Rattle.reasons.proofs.unless.Goals as goal

pub returns : goal.returns
unfolding unless ◌and◌
returns c = refl
