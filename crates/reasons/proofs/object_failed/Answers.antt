-- The result is `object_failed`.
use Rattle.std.proofs.Common.{rules}
use Rattle.reasons.specs.Reasons.{object_failed}
use Rattle.reasons.proofs.object_failed.Goals as goal

pub returns-then-not-is_given : goal.returns-then-not-is_given
unfolding object_failed
returns-then-not-is_given c = search rules

pub returns-then-u-eq1 : goal.returns-then-u-eq1
unfolding object_failed
returns-then-u-eq1 c = search rules

pub returns : goal.returns
unfolding object_failed
returns c = search rules
