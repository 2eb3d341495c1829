-- The result is `process_of f p`.
use Rattle.in_place.specs.Layout.{facility_at}
use Rattle.state.specs.State.{process_in}
use Rattle.in_place.proofs.bytes.ArrayU8SIZEFacilityStore.process.Goals as goal

pub returns : goal.returns
unfolding facility_at process_in
returns c =
    λ j. record {
      running = c.byte.ensures j;
      owner = c.byte-2.ensures j;
      current = (rw (c.of.ensures, c.of-2.ensures) at c.at.ensures) j;
      readmark = (rw (c.of-3.ensures, c.of-4.ensures) at c.at-2.ensures) j;
      writemark = (rw (c.of-5.ensures, c.of-6.ensures) at c.at-3.ensures) j;
      automatic = c.byte-3.ensures j;
      moves = c.byte-4.ensures j;
    }
