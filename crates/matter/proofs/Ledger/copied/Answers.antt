-- The result is `copied_of self p t`.
use borrow.Author.Tests.{lt-ltb, le-ltb}
use Rattle.matter.specs.LedgerSteps.{copied_of}
use Rattle.matter.proofs.Ledger.copied.Goals as goal

pub returns-then-p-ge-PROCESSES : goal.returns-then-p-ge-PROCESSES
unfolding copied_of
returns-then-p-ge-PROCESSES c = rw (le-ltb _ _ c.if-p-ge-PROCESSES.true)

pub returns : goal.returns
unfolding copied_of
returns c = rw (lt-ltb _ _ c.if-p-ge-PROCESSES.false, c.with_process.ensures, c.process_members-s.ensures)
