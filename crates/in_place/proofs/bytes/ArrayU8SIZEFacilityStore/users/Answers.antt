-- The byte of the field.
use Rattle.in_place.specs.Layout.{facility_at}
use Rattle.in_place.proofs.bytes.ArrayU8SIZEFacilityStore.users.Goals as goal

pub returns : goal.returns
unfolding facility_at
returns c = c.byte.ensures
