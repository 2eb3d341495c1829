-- The result is `received_of self p t`.
use Rattle.matter.specs.LedgerSteps.{received_of}
use Rattle.matter.proofs.Ledger.received.Goals as goal

pub returns : goal.returns
unfolding received_of
returns c =
    rw (c.with_process.ensures, c.merged-s.ensures, c.process_members-2.ensures, c.process_members.ensures)
