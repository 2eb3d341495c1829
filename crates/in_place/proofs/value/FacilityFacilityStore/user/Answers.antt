-- Each field is read of its array.
use Rattle.std.proofs.Common.{rules}
use Rattle.state.specs.State.{user_in}
use Rattle.in_place.proofs.value.FacilityFacilityStore.user.Goals as goal

pub returns : goal.returns
unfolding user_in
returns c = search rules
