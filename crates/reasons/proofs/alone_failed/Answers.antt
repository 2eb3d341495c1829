-- The result is `alone_failed`.
use Rattle.std.proofs.Common.{rules}
use Rattle.reasons.specs.Reasons.{alone_failed}
use Rattle.reasons.proofs.alone_failed.Goals as goal

pub returns-in-SendSignal : goal.returns-in-SendSignal
unfolding alone_failed
returns-in-SendSignal c = search rules

pub returns-in-SetLevel : goal.returns-in-SetLevel
unfolding alone_failed
returns-in-SetLevel c = search rules

pub returns-in_default : goal.returns-in_default
unfolding alone_failed
returns-in_default c = search rules
