-- One store for each object, which together are the opens with those of process p copied to t.
use Rattle.std.specs.Prelude.{◌≡◌, set}
use Rattle.std.proofs.Common.{rules, ◌∙◌, ap, arith}
use Rattle.opens.specs.Opens.{most_objects, place}
use Rattle.opens.specs.Laws.Loops.{puts, puts_none, copy_more, row_copied}
use Rattle.opens.proofs.copy_marks.Goals as goal

pub loop-k-init : goal.loop-k-init
loop-k-init c = puts_none _ _ _

pub loop-k-preserved : goal.loop-k-preserved
loop-k-preserved c =
    let l = c.loop-k in
    let a = c.args in
    c.put.ensures ∙ ap (set l.marks (place a.t l.k)) c.at-v.ensures ∙ copy_more _ l.marks a.p a.t l.k (search rules) l.invariant

pub returns : goal.returns
returns c =
    let e : c.loop-k.k ≡ most_objects = omega arith in
    c.loop-k.invariant ∙ ap (puts _ _ _) e ∙ row_copied _ _ _
