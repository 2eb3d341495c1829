-- The result is `mac_failed`.
use Rattle.std.proofs.Common.{rules}
use Rattle.reasons.specs.Reasons.{mac_failed}
use Rattle.reasons.proofs.mac_failed.Goals as goal

pub returns-then-v-ne1 : goal.returns-then-v-ne1
unfolding mac_failed
returns-then-v-ne1 c = search rules

pub returns-then-needs_object : goal.returns-then-needs_object
unfolding mac_failed
returns-then-needs_object c = search rules

pub returns : goal.returns
unfolding mac_failed
returns c = search rules
