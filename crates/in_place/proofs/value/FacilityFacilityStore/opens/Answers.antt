-- The marks are read where they stand.
use Rattle.std.proofs.Common.{rules}
use Rattle.state.specs.State.{opens_of}
use Rattle.in_place.proofs.value.FacilityFacilityStore.opens.Goals as goal

pub returns : goal.returns
unfolding opens_of
returns c = search rules
