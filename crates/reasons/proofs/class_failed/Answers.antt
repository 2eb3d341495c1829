-- The result is `class_failed`.
use Rattle.std.proofs.Common.{rules}
use Rattle.reasons.specs.Reasons.{class_failed}
use Rattle.reasons.proofs.class_failed.Goals as goal

pub returns-in-Reads : goal.returns-in-Reads
unfolding class_failed
returns-in-Reads c = search rules

pub returns-in-Writes : goal.returns-in-Writes
unfolding class_failed
returns-in-Writes c = search rules

pub returns-in-Absent : goal.returns-in-Absent
unfolding class_failed
returns-in-Absent c = search rules
