-- One store in each row, which together are the opens without those on object t.
use Rattle.std.proofs.Common.{rules, ◌∙◌, arith}
use Rattle.opens.specs.Laws.Loops.{puts_none, puts_more, column_cleared, no_object_closed}
use Rattle.opens.proofs.close_object.Goals as goal

pub returns-then-t-ge-OBJECTS : goal.returns-then-t-ge-OBJECTS
returns-then-t-ge-OBJECTS c = no_object_closed _ _ c.if-t-ge-OBJECTS.true

pub loop-row-init : goal.loop-row-init
loop-row-init c = puts_none _ _ _

pub loop-row-preserved : goal.loop-row-preserved
loop-row-preserved c = c.put.ensures ∙ puts_more _ c.loop-row.marks _ _ c.loop-row.row c.loop-row.invariant

pub returns : goal.returns
returns c =
    let l = c.loop-row in
    l.invariant ∙ column_cleared c.args.marks.now c.args.t l.row (search rules) (omega arith)
