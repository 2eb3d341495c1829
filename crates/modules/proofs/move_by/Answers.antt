-- The result is `move_by k l r`.
use Rattle.rules.specs.Modules.{move_by}
use Rattle.modules.proofs.move_by.Goals as goal

pub returns-in-Absent : goal.returns-in-Absent
unfolding move_by
returns-in-Absent c = rw c.in-Absent.is

pub returns-in-NoCondition : goal.returns-in-NoCondition
unfolding move_by
returns-in-NoCondition c = rw c.in-NoCondition.is
