-- The result is `mac_class k l r clr`.
use Rattle.rules.specs.Modules.{mac_class}
use Rattle.modules.proofs.mac_class.Goals as goal

pub returns-in-Absent : goal.returns-in-Absent
unfolding mac_class
returns-in-Absent c = rw c.in-Absent.is

pub returns-in-Reads : goal.returns-in-Reads
unfolding mac_class
returns-in-Reads c = rw (c.in-Reads.is, c.grant.ensures, c.may_read.ensures)

pub returns-in-Writes : goal.returns-in-Writes
unfolding mac_class
returns-in-Writes c = rw (c.in-Writes.is, c.grant-in-Writes.ensures, c.may_write.ensures)

pub returns-in-Both : goal.returns-in-Both
unfolding mac_class
returns-in-Both c = rw (c.in-Both.is, c.grant-in-Both.ensures, c.may_write-in-Both.ensures)

pub returns-in-NoCondition : goal.returns-in-NoCondition
unfolding mac_class
returns-in-NoCondition c = rw c.in-NoCondition.is
