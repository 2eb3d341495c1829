-- The result is `signal_failed`.
use Rattle.std.proofs.Common.{rules}
use Rattle.labels.specs.Decisions.{◌or◌}
use Rattle.reasons.specs.Reasons.{signal_failed}
use Rattle.reasons.proofs.signal_failed.Goals as goal

pub returns : goal.returns
unfolding signal_failed ◌or◌
returns c = search rules
