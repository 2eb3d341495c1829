-- The fields of `no_process`.
use Rattle.std.proofs.Common.{rules}
use Rattle.labels.specs.Labels.{bottom}
use Rattle.state.specs.State.{no_process}
use Rattle.state.proofs.Process.none.Goals as goal

pub returns : goal.returns
unfolding no_process bottom
returns c = search rules
