-- The result is `merged_of self other`.
use mathlib.Core.Path.{refl}
use Rattle.matter.specs.LedgerSteps.{merged_of}
use Rattle.matter.proofs.Members.merged.Goals as goal

pub returns : goal.returns
unfolding merged_of
returns c = refl
