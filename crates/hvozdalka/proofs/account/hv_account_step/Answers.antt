-- The step is the one by `call_of c`.
use Rattle.hvozdalka.proofs.account.hv_account_step.Goals as goal

pub returns : goal.returns
returns c = rw (← c.from.ensures) c.step.ensures
