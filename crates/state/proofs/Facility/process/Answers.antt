-- Each field is read of its array.
use Rattle.std.proofs.Common.{rules}
use Rattle.state.specs.State.{process_in}
use Rattle.state.proofs.Facility.process.Goals as goal

pub returns : goal.returns
unfolding process_in
returns c = search rules
