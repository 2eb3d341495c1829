-- The result is `start_of entered kinds`.
use Rattle.matter.specs.LedgerSteps.{start_of}
use Rattle.matter.proofs.Ledger.start.Goals as goal

pub returns : goal.returns
unfolding start_of
returns c = rw c.selves-objects.ensures
