-- The result is `no_members`.
use Rattle.std.proofs.Common.{rules}
use Rattle.matter.specs.LedgerSteps.{no_members}
use Rattle.matter.proofs.Members.none.Goals as goal

pub returns : goal.returns
unfolding no_members
returns c = search rules
