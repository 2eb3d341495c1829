-- Each live object's record is stored behind those before it.
use Rattle.std.specs.Prelude.{◌<◌, List}
use Rattle.std.proofs.Common.{ap, rules, subst}
use Rattle.rules.specs.declared.SetupRecord.{SetupRecord}
use Rattle.state.specs.State.{objects_in}
use Rattle.writer.specs.Writing.{Stored, live_record}
use Rattle.writer.proofs.WritingLoop.{section_begins, section_place, section_goes_on}
use Rattle.writer.proofs.put_objects.Goals as goal

pub loop-t-init : goal.loop-t-init
loop-t-init g c = section_begins

pub put_live-place-requires : goal.put_live-place-requires
put_live-place-requires g c =
    let n : (g.S.FacilityStore.facility c.args.s.now).entered < 256 = search rules in
    section_place c.loop-t.invariant c.requires n

pub loop-t-preserved : goal.loop-t-preserved
loop-t-preserved g c =
    let l = c.loop-t in
    let x = objects_in (g.S.FacilityStore.facility c.args.s.now) in
    section_goes_on l.invariant (search rules)
    (subst (λ (rs : List SetupRecord). Stored l.out l.place rs c.put_live-place.new.out c.put_live-place.result)
    (ap (live_record x) c.object.ensures) c.put_live-place.ensures)
