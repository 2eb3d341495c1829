-- The two words of the row.
use Rattle.std.proofs.Common.{rules}
use Rattle.matter.specs.LedgerSteps.{members_in}
use Rattle.matter.proofs.row.Goals as goal

pub returns : goal.returns
unfolding members_in
returns c = search rules
