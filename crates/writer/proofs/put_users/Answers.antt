-- Each user's record is stored behind those before it.
use Rattle.std.specs.Prelude.{[], ◌∷◌, ◌<◌, ◌≤◌}
use Rattle.std.proofs.Common.{◌∙◌, ap, arith, rules, subst}
use Rattle.rules.specs.declared.SetupRecord.{SetupRecord}
use Rattle.rules.specs.Setup.{every, user_record}
use Rattle.state.specs.State.{user_in, users_in}
use Rattle.writer.specs.Writing.{Stored}
use Rattle.writer.proofs.WritingLoop.{section_begins, section_place, section_goes_on, section_ends, section_most}
use Rattle.writer.proofs.put_users.Goals as goal

pub loop-u-init : goal.loop-u-init
loop-u-init g c = section_begins

pub put_record-place-requires : goal.put_record-place-requires
put_record-place-requires g c =
    let n : (g.S.FacilityStore.facility c.args.s.now).users < 256 = search rules in
    section_place c.loop-u.invariant c.requires n

pub loop-u-preserved : goal.loop-u-preserved
loop-u-preserved g c =
    let l = c.loop-u in
    let e = c.user_record.ensures ∙ ap user_record c.user.ensures in
    section_goes_on l.invariant (search rules)
    (subst (λ (r : SetupRecord). Stored l.out l.place (r ∷ []) c.put_record-place.new.out c.put_record-place.result) e c.put_record-place.ensures)

pub returns : goal.returns
returns g c =
    let n : (g.S.FacilityStore.facility c.args.s.now).users ≤ 255 = search rules in
    let s = section_ends c.loop-u.invariant (search rules) in
    let m = section_most user_record _ every (user_in (users_in (g.S.FacilityStore.facility c.args.s.now))) _ _ _ _ s in
    record { stored = s; within = omega (arith, n, m) }
