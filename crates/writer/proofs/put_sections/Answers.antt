-- The sections stand one behind the other.
use Rattle.std.specs.Prelude.{[], ◌∷◌}
use Rattle.std.proofs.Common.{◌∙◌, ap, subst}
use Rattle.rules.specs.declared.SetupRecord.{SetupRecord}
use Rattle.rules.specs.Setup.{switches_record, setup_records}
use Rattle.state.specs.State.{objects_in, switches_of, users_in}
use Rattle.writer.specs.Writing.{Stored, user_records, object_records}
use Rattle.writer.proofs.WritingLoop.{nothing, then}
use Rattle.writer.proofs.put_sections.Goals as goal

pub returns : goal.returns
unfolding setup_records
returns g c =
    let f = g.S.FacilityStore.facility c.args.s.now in
    let o = c.args.out.now in
    let e = c.switches_record.ensures ∙ ap switches_record c.switches.ensures in
    let s = subst (λ (r : SetupRecord). Stored o 0 (r ∷ []) c.put_record-users.new.out c.put_record-users.result) e c.put_record-users.ensures in
    then o _ _ 0 _ _ (switches_record (switches_of f) ∷ []) _ s
    (then _ _ _ _ _ _ (user_records f.users (users_in f)) _ c.put_users-objects.ensures.stored
    (then _ _ _ _ _ _ (object_records f.entered (objects_in f)) [] c.put_objects.ensures (nothing _ _)))
