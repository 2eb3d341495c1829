-- The result is `failed_by`.
use Rattle.std.proofs.Common.{rules}
use Rattle.reasons.specs.Reasons.{failed_by}
use Rattle.reasons.proofs.failed_by.Goals as goal

pub returns-then-is_denial : goal.returns-then-is_denial
unfolding failed_by
returns-then-is_denial c = search rules

pub returns : goal.returns
unfolding failed_by
returns c = search rules
