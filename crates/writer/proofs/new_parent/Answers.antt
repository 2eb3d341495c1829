-- None, a deleted one, and a live one by its new number.
use Rattle.std.specs.Prelude.{ℕ, ◌+◌, ◌-◌, ◌≡◌}
use Rattle.std.proofs.Common.{sym, ◌∙◌, ap, arith, eq-eqb, ne_eqb}
use Rattle.labels.specs.Decisions.{at}
use Rattle.rules.specs.Setup.{new_parent}
use Rattle.rules.proofs.Parents.{new_most, parent_none, parent_dead, parent_live}
use Rattle.state.specs.declared.Object.{Object}
use Rattle.state.specs.State.{object_in, objects_in}
use Rattle.writer.proofs.new_parent.Goals as goal

pub returns-then-parent-eq0 : goal.returns-then-parent-eq0
returns-then-parent-eq0 g c =
    let x = objects_in (g.S.FacilityStore.facility c.args.s.now) in
    sym (ap (new_parent x) c.if-parent-eq0.true ∙ parent_none x)

pub returns-then-object-ne1 : goal.returns-then-object-ne1
unfolding object_in
returns-then-object-ne1 g c =
    let a = c.args in
    let x = objects_in (g.S.FacilityStore.facility a.s.now) in
    let l : c.object.result.live ≡ at x.lives (a.parent - 1) = ap (λ (o : Object). o.live) c.object.ensures in
    sym (parent_dead x a.parent (ne_eqb _ 1 (λ z. c.if-object-ne1.true (l ∙ z))))

pub overflow_add-result : goal.overflow_add-result
overflow_add-result g c =
    let a = c.args in
    let h = new_most (objects_in (g.S.FacilityStore.facility a.s.now)) (a.parent - 1) in
    omega (arith, c.new_number.ensures, c.if-parent-eq0.false, c.ranges)

pub returns : goal.returns
unfolding object_in
returns g c =
    let a = c.args in
    let x = objects_in (g.S.FacilityStore.facility a.s.now) in
    let l : c.object.result.live ≡ at x.lives (a.parent - 1) = ap (λ (o : Object). o.live) c.object.ensures in
    ap (λ (n : ℕ). n + 1) c.new_number.ensures
    ∙ sym (parent_live x a.parent c.if-parent-eq0.false (eq-eqb _ 1 (sym l ∙ c.if-object-ne1.false)))
