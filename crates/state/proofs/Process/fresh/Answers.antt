-- The fields of `fresh_process`.
use Rattle.std.proofs.Common.{rules}
use Rattle.labels.specs.Labels.{bottom, top}
use Rattle.state.specs.State.{fresh_process}
use Rattle.state.proofs.Process.fresh.Goals as goal

pub returns : goal.returns
unfolding fresh_process bottom top
returns c = search rules
