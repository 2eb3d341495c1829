-- A parent that is none, a later one, and else by the flag and the parent's life.
use Rattle.std.specs.Prelude.{◌≡◌, ◌+◌, ◌-◌, true, false}
use Rattle.std.proofs.Common.{◌∙◌, ap, arith, sym}
use Rattle.labels.specs.Decisions.{◌and◌, at}
use Rattle.rules.specs.FileFlags.{flags_of, parent_of}
use Rattle.state.specs.declared.Object.{Object}
use Rattle.state.specs.State.{objects_in, object_in}
use Rattle.flags.proofs.Chain.{from_none, from_later, from_parent}
use Rattle.flags.proofs.inherits_from.Goals as goal
use Rattle.flags.proofs.inherits_from.Goals.{then-own-eq0-via-then-own-eq0, then-own-eq0-via-else-own-eq0+then-t-own}

pub returns-then-own-eq0 : goal.returns-then-own-eq0
unfolding object_in
returns-then-own-eq0 g c =
    let t = c.args.t in
    let x = objects_in (g.S.FacilityStore.facility c.args.s.now) in
    let e : c.object-own.result.parent ≡ parent_of x t = ap (λ (o : Object). o.parent) c.object-own.ensures in
    elim c.then-own-eq0.branch [
      | then-own-eq0-via-then-own-eq0 w ↦ from_none x t (sym e ∙ w.if-own-eq0.true)
      | then-own-eq0-via-else-own-eq0+then-t-own w ↦ from_later x t (omega (arith, e, w.if-t-own.true))
    ]

pub returns-then-has-object : goal.returns-then-has-object
unfolding ◌and◌ object_in
returns-then-has-object g c =
    let x = objects_in (g.S.FacilityStore.facility c.args.s.now) in
    let e : c.object-own.result.parent ≡ parent_of x c.args.t = ap (λ (o : Object). o.parent) c.object-own.ensures in
    let f : c.object-own.result.flags ≡ flags_of x c.args.t = ap (λ (o : Object). o.flags) c.object-own.ensures in
    let l : c.object.result.live ≡ at x.lives (c.object-own.result.parent - 1) = ap (λ (o : Object). o.live) c.object.ensures in
    let n : c.object-own.result.parent - 1 + 1 ≡ parent_of x c.args.t = omega (arith, e, c.if-own-eq0.false) in
    n ∙ from_parent x c.args.t true (λ h. c.if-own-eq0.false (e ∙ h)) (omega (arith, e, c.if-t-own.false))
    (rw (← f, ← e, ← l, ← c.has.ensures) c.if-has-object.true)

pub returns : goal.returns
unfolding ◌and◌ object_in
returns g c =
    let x = objects_in (g.S.FacilityStore.facility c.args.s.now) in
    let e : c.object-own.result.parent ≡ parent_of x c.args.t = ap (λ (o : Object). o.parent) c.object-own.ensures in
    let f : c.object-own.result.flags ≡ flags_of x c.args.t = ap (λ (o : Object). o.flags) c.object-own.ensures in
    let l : c.object.result.live ≡ at x.lives (c.object-own.result.parent - 1) = ap (λ (o : Object). o.live) c.object.ensures in
    from_parent x c.args.t false (λ h. c.if-own-eq0.false (e ∙ h)) (omega (arith, e, c.if-t-own.false))
    (rw (← f, ← e, ← l, ← c.has.ensures) c.if-has-object.false)
