-- The opens are stored as the call on them left them.
use Rattle.std.proofs.Common.{rules}
use Rattle.state.specs.State.{put_opens}
use Rattle.in_place.proofs.value.FacilityFacilityStore.put_marks.Goals as goal

pub returns : goal.returns
unfolding put_opens
returns c = search rules
