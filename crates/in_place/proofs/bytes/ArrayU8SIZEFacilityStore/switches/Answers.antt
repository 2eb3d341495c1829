-- A byte for each switch.
use Rattle.in_place.specs.Layout.{facility_at}
use Rattle.in_place.proofs.bytes.ArrayU8SIZEFacilityStore.switches.Goals as goal

pub returns : goal.returns
unfolding facility_at
returns c =
    λ i. record {
      mac = c.byte.ensures i;
      fc = c.byte-2.ensures i;
      sim = c.byte-3.ensures i;
      ff = c.byte-4.ensures i;
    }
