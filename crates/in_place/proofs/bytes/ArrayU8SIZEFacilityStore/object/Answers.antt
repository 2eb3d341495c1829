-- The result is `object_of f t`.
use Rattle.in_place.specs.Layout.{facility_at}
use Rattle.state.specs.State.{object_in}
use Rattle.in_place.proofs.bytes.ArrayU8SIZEFacilityStore.object.Goals as goal

pub returns : goal.returns
unfolding facility_at object_in
returns c =
    λ j. record {
      live = c.byte.ensures j;
      kind = c.byte-2.ensures j;
      label = (rw (c.of.ensures, c.of-2.ensures) at c.at.ensures) j;
      category = c.byte-3.ensures j;
      datatype = c.byte-4.ensures j;
      flags = c.byte-5.ensures j;
      parent = c.byte-6.ensures j;
    }
