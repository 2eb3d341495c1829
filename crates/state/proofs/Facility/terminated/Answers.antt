-- The process is put, and then its marks go.
use Rattle.std.proofs.Common.{rules}
use Rattle.state.specs.State.{put_opens, put_process}
use Rattle.state.proofs.Facility.terminated.Goals as goal

pub returns : goal.returns
unfolding put_opens put_process
returns c = search rules
