-- The row is put.
use Rattle.std.proofs.Common.{rules}
use Rattle.matter.specs.LedgerSteps.{with_object}
use Rattle.matter.proofs.Ledger.with_object.Goals as goal

pub returns : goal.returns
unfolding with_object
returns c = search rules
