-- Each field is read of its array.
use Rattle.std.proofs.Common.{rules}
use Rattle.state.specs.State.{object_in}
use Rattle.in_place.proofs.value.FacilityFacilityStore.object.Goals as goal

pub returns : goal.returns
unfolding object_in
returns c = search rules
