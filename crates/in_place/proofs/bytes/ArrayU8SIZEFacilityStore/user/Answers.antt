-- The result is `user_of f u`.
use Rattle.in_place.specs.Layout.{facility_at}
use Rattle.state.specs.State.{user_in}
use Rattle.in_place.proofs.bytes.ArrayU8SIZEFacilityStore.user.Goals as goal

pub returns : goal.returns
unfolding facility_at user_in
returns c = λ j. record { clearance = (rw (c.of.ensures, c.of-2.ensures) at c.at.ensures) j; role = c.byte.ensures j; trusted = c.byte-2.ensures j }
