-- The result is `entered_of self kind`.
use borrow.Author.Tests.{lt-ltb, le-ltb}
use Rattle.matter.specs.LedgerSteps.{with_kind, entered_of}
use Rattle.matter.proofs.Ledger.entered.Goals as goal

pub returns-then-i-ge-OBJECTS : goal.returns-then-i-ge-OBJECTS
unfolding entered_of
returns-then-i-ge-OBJECTS c = rw (le-ltb _ _ c.if-i-ge-OBJECTS.true)

pub returns : goal.returns
unfolding entered_of with_kind
returns c = rw (lt-ltb _ _ c.if-i-ge-OBJECTS.false, c.with_object-l.ensures, c.only.ensures)
