-- The result is `blank s`.
use mathlib.Core.Path.{refl}
use Rattle.state.specs.State.{blank}
use Rattle.state.proofs.Facility.blank.Goals as goal

pub returns : goal.returns
unfolding blank
returns c = refl
