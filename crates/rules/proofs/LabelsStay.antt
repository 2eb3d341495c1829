-- The labels of objects after a list: proved.
use Rattle.std.specs.Prelude.{ℕ, ◌<◌, ◌≡◌, refl, true}
use Rattle.std.proofs.Common.{sym, ◌∙◌, ap, ltb-true}
use Rattle.rules.specs.Types.{Call, Process, Object, Facility}
use Rattle.labels.proofs.Laws.Decisions.{by_test}
use Rattle.opens.specs.Opens.{most_objects}
use Rattle.state.specs.Laws.ReadBack.{process_same, object_new, add_object_law}
use Rattle.state.specs.State.{label_of, put_process, put_object}
use Rattle.rules.specs.Requests.{action_of, is_create, in_directory}
use Rattle.rules.specs.Modules.{view_of, moved}
use Rattle.rules.specs.Effects.{created, effect_from}
use Rattle.rules.specs.Calls.{accepted, after}
use Rattle.rules.specs.Histories.{run, current_of}
use Rattle.rules.specs.Setup.{fresh}
use Rattle.rules.specs.Promises.{LabelsStay}
use Rattle.rules.proofs.Sound.{Sound, sound_process}
use Rattle.rules.proofs.Regular.{regular_run}
use Rattle.rules.proofs.Passed.{create_passed}
use Rattle.rules.proofs.Fresh.{fresh_setup}
use Rattle.rules.proofs.Kept.{kept_run}

-- a new object touches no process
object_process : (f : Facility) (o : Object) (p : ℕ) → current_of (put_object f o) p ≡ current_of f p
unfolding put_object
object_process f o p = refl

-- an object with the current label of process p
new_label : (f : Facility) (p e t : ℕ) (r : Process) → Sound f → f.entered < most_objects → r.current ≡ current_of f p
    → label_of (put_object f (created r e t)) f.entered ≡ current_of (put_object f (created r e t)) p
new_label f p e t r S h k =
    ap (λ (o : Object). o.label) (object_new f (created r e t) S.shaped h) ∙ k ∙ sym (object_process f (created r e t) p)

created_label : (f : Facility) (c : Call) → Sound f → accepted f c ≡ true → is_create (action_of c.request) ≡ true
    → label_of (after f c) f.entered ≡ current_of (after f c) c.process
unfolding after effect_from put_process
created_label f c S a k =
    let (e, q) = create_passed f c a k in
    let room : f.entered < most_objects = ltb-true _ _ q.room in
    let r = moved (view_of f c) c in
    let g = put_process f c.process r in
    by_test (in_directory c.extra)
    (λ d. rw (a, e, d, add_object_law g (created r c.extra c.target) room)
    (new_label g c.process c.extra c.target r (sound_process f c.process r S) room
    (sym (ap (λ (x : Process). x.current) (process_same f c.process r S.shaped q.process)))))
    (λ d. rw (a, e, d, add_object_law f (created (view_of f c).caller c.extra c.target) room)
    (new_label f c.process c.extra c.target (view_of f c).caller S room refl))

pub labels_stay : LabelsStay
labels_stay =
    record {
      entered = λ s cs t h. (kept_run cs (fresh s) t h).label;
      created = λ s cs c a k. created_label (run (fresh s) cs) c (regular_run cs (fresh s) (fresh_setup s).regular).sound a k;
      later = λ s cs ds t h. (kept_run ds (run (fresh s) cs) t h).label;
    }
