-- By the kind of the record.
use Rattle.std.proofs.Common.{◌∙◌, ap, rules, subst}
use Rattle.state.specs.declared.Facility.{Facility}
use Rattle.state.specs.State.{add_object, add_user, blank}
use Rattle.setup.specs.Laws.Entered.{switches_entered_law, user_entered_law, object_entered_law, none_entered}
use Rattle.setup.proofs.enter_record.Goals as goal

pub returns-in-3 : goal.returns-in-3
returns-in-3 g c =
    let a = c.args in
    subst (λ (f : Facility). g.S.FacilityStore.becomes a.s.now c.blank.new.self f)
    (ap blank c.switches_entered.ensures ∙ switches_entered_law (g.S.FacilityStore.facility a.s.now) a.r c.in-3.is) c.blank.ensures

pub returns-in-1 : goal.returns-in-1
returns-in-1 g c =
    let a = c.args in
    let f = g.S.FacilityStore.facility a.s.now in
    subst (λ (x : Facility). g.S.FacilityStore.becomes a.s.now c.add_user.new.self x)
    (ap (add_user f) c.user_entered.ensures ∙ user_entered_law f a.r (search rules) c.in-1.is) c.add_user.ensures

pub returns-in-2 : goal.returns-in-2
returns-in-2 g c =
    let a = c.args in
    let f = g.S.FacilityStore.facility a.s.now in
    subst (λ (x : Facility). g.S.FacilityStore.becomes a.s.now c.add_object.new.self x)
    (ap (add_object f) c.object_entered.ensures ∙ object_entered_law f a.r (search rules) (search rules) c.in-2.is) c.add_object.ensures

pub returns-in_default : goal.returns-in_default
returns-in_default g c =
    let a = c.args in
    let f = g.S.FacilityStore.facility a.s.now in
    subst (λ (x : Facility). g.S.FacilityStore.becomes a.s.now a.s.now x)
    (none_entered f a.r (search rules) (search rules) (search rules)) (g.met.S.FacilityStore.unchanged a.s.now)
