-- The mark is stored where it stands.
use Rattle.std.proofs.Common.{rules}
use Rattle.state.specs.State.{opens_of, put_opens}
use Rattle.state.proofs.Facility.with_marked.Goals as goal

pub returns : goal.returns
unfolding opens_of put_opens
returns c = search rules
