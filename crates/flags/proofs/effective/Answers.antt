-- What is gathered, with what is inherited further up, makes the effective flags.
use Rattle.std.specs.Prelude.{◌≡◌, None}
use Rattle.std.specs.Int.Bits.{or_zero_r}
use Rattle.std.proofs.Common.{◌∙◌, ap, arith, rules, sym}
use Rattle.state.specs.declared.Object.{Object}
use Rattle.state.specs.State.{object_in, objects_in}
use Rattle.flags.proofs.Chain.{effective_rest, from_below, rest_some}
use Rattle.flags.proofs.effective.Goals as goal

pub loop-from-init : goal.loop-from-init
unfolding object_in
loop-from-init g c =
    let x = objects_in (g.S.FacilityStore.facility c.args.s.now) in
    rw (ap (λ (o : Object). o.flags) c.object-v.ensures, c.inherits_from-from.ensures) (effective_rest x c.args.t)

pub loop-from-smaller : goal.loop-from-smaller
loop-from-smaller g c =
    let x = objects_in (g.S.FacilityStore.facility c.args.s.now) in
    let b = from_below x c.in-Some.i in
    rw c.in-Some.is (omega (arith, b, c.inherits_from-from-in-Some.ensures))

pub loop-from-preserved : goal.loop-from-preserved
unfolding object_in
loop-from-preserved g c =
    let x = objects_in (g.S.FacilityStore.facility c.args.s.now) in
    let h = rw c.in-Some.is at c.loop-from.invariant in
    rw (ap (λ (o : Object). o.flags) c.object.ensures, c.inherits_from-from-in-Some.ensures) (h ∙ rest_some x c.loop-from.v c.in-Some.i)

pub returns : goal.returns
returns g c =
    let e : c.loop-from.from ≡ None = search rules in
    sym (rw e at c.loop-from.invariant ∙ or_zero_r c.loop-from.v)
