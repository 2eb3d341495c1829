-- The row is put.
use Rattle.std.proofs.Common.{rules}
use Rattle.matter.specs.LedgerSteps.{with_process}
use Rattle.matter.proofs.Ledger.with_process.Goals as goal

pub returns : goal.returns
unfolding with_process
returns c = search rules
