-- The live marks are stored as the call on them left them.
use Rattle.std.proofs.Common.{rules}
use Rattle.state.specs.State.{drop_object}
use Rattle.in_place.proofs.value.FacilityFacilityStore.drop_object.Goals as goal

pub returns : goal.returns
unfolding drop_object
returns c = search rules
