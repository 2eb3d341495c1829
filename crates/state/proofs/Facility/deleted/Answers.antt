-- The opens on the object go, and then its live mark.
use Rattle.std.proofs.Common.{rules}
use Rattle.state.specs.State.{put_opens, drop_object}
use Rattle.state.proofs.Facility.deleted.Goals as goal

pub returns : goal.returns
unfolding put_opens drop_object
returns c = search rules
