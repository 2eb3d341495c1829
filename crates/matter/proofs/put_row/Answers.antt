-- The two words of the row.
use Rattle.std.proofs.Common.{rules}
use Rattle.matter.specs.LedgerSteps.{put_members}
use Rattle.matter.proofs.put_row.Goals as goal

pub returns : goal.returns
unfolding put_members
returns c = search rules
