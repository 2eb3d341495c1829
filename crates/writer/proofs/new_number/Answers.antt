-- Each live object is one more.
use Rattle.std.specs.Prelude.{◌≡◌}
use Rattle.std.proofs.Common.{◌∙◌, ap, arith, sym}
use Rattle.labels.specs.Decisions.{at}
use Rattle.rules.proofs.Parents.{new_most}
use Rattle.state.specs.declared.Object.{Object}
use Rattle.state.specs.State.{object_in, objects_in}
use Rattle.writer.proofs.NewNumbers.{number_begins, number_live, number_gone}
use Rattle.writer.proofs.new_number.Goals as goal
use Rattle.writer.proofs.new_number.Goals.{then-object-eq1, else-object-eq1}

pub loop-k-init : goal.loop-k-init
loop-k-init g c = number_begins _

pub overflow_add-n : goal.overflow_add-n
overflow_add-n g c =
    let l = c.loop-k in
    let h = new_most (objects_in (g.S.FacilityStore.facility c.args.s.now)) l.k in
    omega (arith, l.invariant, c.loop-k-test.true, c.ranges)

pub loop-k-preserved : goal.loop-k-preserved
unfolding object_in
loop-k-preserved g c =
    let l = c.loop-k in
    let x = objects_in (g.S.FacilityStore.facility c.args.s.now) in
    let e : c.object.result.live ≡ at x.lives l.k = ap (λ (o : Object). o.live) c.object.ensures in
    elim c.if-object-eq1.branch [
      | then-object-eq1 w ↦ w.n-is ∙ number_live x l.k l.n l.invariant (sym e ∙ w.if-object-eq1.true)
      | else-object-eq1 w ↦ w.n-is ∙ number_gone x l.k l.n l.invariant (λ z. w.if-object-eq1.false (e ∙ z))
    ]
