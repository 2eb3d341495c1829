-- Each arm by what the request acts on.
use Rattle.modules.specs.Parts.{mac_alone}
use Rattle.modules.proofs.mac_alone.Goals as goal

pub returns-in-Login : goal.returns-in-Login
unfolding mac_alone
returns-in-Login c = rw c.in-Login.is

pub returns-in-Clone : goal.returns-in-Clone
unfolding mac_alone
returns-in-Clone c = rw c.in-Clone.is

pub returns-in-SendSignal : goal.returns-in-SendSignal
unfolding mac_alone
returns-in-SendSignal c = rw (c.in-SendSignal.is, c.mac_signal.ensures)

pub returns-in-Terminate : goal.returns-in-Terminate
unfolding mac_alone
returns-in-Terminate c = rw c.in-Terminate.is

pub returns-in-Create : goal.returns-in-Create
unfolding mac_alone
returns-in-Create c = rw c.in-Create.is

pub returns-in-OnObject : goal.returns-in-OnObject
unfolding mac_alone
returns-in-OnObject c = rw c.in-OnObject.is

pub returns-in-Unknown : goal.returns-in-Unknown
unfolding mac_alone
returns-in-Unknown c = rw c.in-Unknown.is
