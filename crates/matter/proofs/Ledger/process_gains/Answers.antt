-- The result is `process_gains_of self p t`.
use Rattle.matter.specs.LedgerSteps.{process_gains_of}
use Rattle.matter.proofs.Ledger.process_gains.Goals as goal

pub returns : goal.returns
unfolding process_gains_of
returns c =
    rw (c.with_process.ensures, c.merged-s.ensures, c.object_members.ensures, c.process_members.ensures)
