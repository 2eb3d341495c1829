-- The result is `assigned_nothing_of self p`.
use Rattle.matter.specs.LedgerSteps.{assigned_nothing_of}
use Rattle.matter.proofs.Ledger.assigned_nothing.Goals as goal

pub returns : goal.returns
unfolding assigned_nothing_of
returns c = rw (c.with_process.ensures, c.none.ensures)
