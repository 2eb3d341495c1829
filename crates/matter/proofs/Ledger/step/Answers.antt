-- The result is `step_of self c accepted`.
use Rattle.matter.specs.LedgerSteps.{step_of}
use Rattle.matter.proofs.Ledger.step.Goals as goal

pub returns-then-accepted : goal.returns-then-accepted
unfolding step_of
returns-then-accepted c = rw (c.if-accepted.true, c.carried.ensures, c.action_of.ensures)

pub returns : goal.returns
unfolding step_of
returns c = rw c.if-accepted.false
