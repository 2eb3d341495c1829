-- Each object so far holds itself.
use Rattle.std.proofs.Common.{◌∙◌}
use Rattle.matter.specs.LedgerSteps.{put_members}
use Rattle.matter.specs.Laws.BitRows.{selves_none, selves_more}
use Rattle.matter.proofs.selves.Goals as goal

pub loop-t-init : goal.loop-t-init
loop-t-init c = selves_none

pub loop-t-preserved : goal.loop-t-preserved
unfolding put_members
loop-t-preserved c = c.put_row.ensures ∙ selves_more c.loop-t.words c.loop-t.t _ c.loop-t.invariant c.only.ensures
