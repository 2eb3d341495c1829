-- The source further up is the source of the whole.
use Rattle.std.specs.Prelude.{◌≡◌, false}
use Rattle.std.proofs.Common.{◌∙◌, ap, arith, rules, sym}
use Rattle.rules.specs.FileFlags.{flags_of, has}
use Rattle.state.specs.declared.Object.{Object}
use Rattle.state.specs.State.{object_in, objects_in}
use Rattle.flags.proofs.Chain.{from_below, source_here, source_none, source_some}
use Rattle.flags.proofs.source.Goals as goal

pub returns-in_default : goal.returns-in_default
unfolding object_in
returns-in_default g c =
    let x = objects_in (g.S.FacilityStore.facility c.args.s.now) in
    let h : has c.loop-i.m (flags_of x c.loop-i.i) ≡ false = rw (← ap (λ (o : Object). o.flags) c.object.ensures, ← c.has.ensures) (search rules) in
    source_none x c.loop-i.i c.loop-i.m h (sym c.in_default.ensures) ∙ c.loop-i.invariant

pub loop-i-smaller : goal.loop-i-smaller
loop-i-smaller g c =
    let x = objects_in (g.S.FacilityStore.facility c.args.s.now) in
    let b = from_below x c.loop-i.i in
    let e = rw c.in-Some.is at c.inherits_from.ensures in
    omega (arith, b, e)

pub loop-i-preserved : goal.loop-i-preserved
unfolding object_in
loop-i-preserved g c =
    let x = objects_in (g.S.FacilityStore.facility c.args.s.now) in
    let h : has c.loop-i.m (flags_of x c.loop-i.i) ≡ false = rw (← ap (λ (o : Object). o.flags) c.object.ensures, ← c.has.ensures) (search rules) in
    let e = rw c.in-Some.is at c.inherits_from.ensures in
    sym (source_some x c.loop-i.i c.loop-i.m c.in-Some.parent h e) ∙ c.loop-i.invariant

pub returns : goal.returns
unfolding object_in
returns g c =
    let x = objects_in (g.S.FacilityStore.facility c.args.s.now) in
    source_here x c.loop-i.i c.loop-i.m (rw (← ap (λ (o : Object). o.flags) c.object.ensures, ← c.has.ensures) (search rules)) ∙ c.loop-i.invariant
