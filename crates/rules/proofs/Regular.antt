-- What holds of every facility that a list of calls reaches, whatever its switches: each byte is one that a set-up allows, and the labels of every
-- process are lawful.
use Rattle.std.specs.Prelude.{ℕ, ◌+◌, ◌-◌, ◌≤◌, ◌<◌, ◌≡◌, refl, ◌≢◌, false, not, List, [], ◌∷◌, leb, ltb, length}
use Rattle.std.proofs.Common.{ap, ◌∙◌, length-set, arith, ltb-true, leb-true, le-leb}
use Rattle.std.proofs.Math.Path.{subst⁻¹}
use Rattle.std.proofs.Math.Bool.{true}
use Rattle.rules.specs.Types.{Call, Process, User, Object, Facility}
use Rattle.labels.specs.Decisions.{◌and◌, ◌or◌, on}
use Rattle.labels.proofs.Laws.Decisions.{and_l, and_r, or_cases, clash, by_test, by_eq}
use Rattle.state.specs.Laws.ReadBack.{user_new, user_old, object_new, object_old, add_object_law}
use Rattle.opens.specs.Laws.Loops.{length_object_closed, length_process_closed, length_process_copied}
use Rattle.answers.specs.Outcomes.{denies}
use Rattle.state.specs.State.{most_users, object_in, switches_of, process_of, object_of, user_of, live, put_process}
use Rattle.state.specs.State.{put_opens, put_user, put_object, drop_object}
use Rattle.state.specs.State.{put_refusals, counted, fresh_process, no_process, open_by}
use Rattle.opens.specs.Opens.{most_processes, most_objects, most_opens}
use Rattle.labels.specs.Labels.{all_categories, Label, ◌⊑◌, lawful, given}
use Rattle.labels.proofs.Laws.Labels.{⊑_refl, bottom_least, below_lawful, join_lawful, meet_lawful, label_lawful, lawful_level, lawful_set, unset_level}
use Rattle.labels.proofs.Laws.Labels.{lawful_not_unset}
use Rattle.answers.specs.Answers.{passes}
use Rattle.answers.proofs.Laws.Answers.{passes_grant}
use Rattle.rules.specs.Effects.{first_flags, first_parent, created, effect_from, effect_by}
use Rattle.rules.specs.Calls.{owner_in, accepted, after_refusal, after}
use Rattle.rules.specs.Histories.{run}
use Rattle.rules.specs.Requests.{Action, Login, Clone, SendSignal, SetLevel, Terminate, Create, OnObject, Unknown, Class, Absent, Reads, Writes}
use Rattle.rules.specs.Requests.{Both, NoCondition, OpenChange, Keep, Add, Close, CloseAll, action_of, in_directory, open_change}
use Rattle.rules.specs.Kinds.{switches_kind, users_kind, objects_kind, allowed_by}
use Rattle.rules.specs.Setup.{switches_record, user_record, object_record}
use Rattle.rules.specs.Modules.{View, view_of, class_in, wanted, may_set, mac_object, mac_rule, move_by, set_level, moved, levelled, signalled}
use Rattle.rules.specs.Questions.{number}
use Rattle.rules.proofs.Moves.{object_granted}
use Rattle.rules.proofs.Classes.{request_create, create_directory}
use Rattle.rules.proofs.Processes.{each}
use Rattle.rules.proofs.Sound.{Sound, sound_process, sound_opens, sound_counted, sound_user, sound_object, sound_drop}
use Rattle.rules.proofs.Passed.{Passed, passed, mac_passed, accepted_zero}

pub record LawfulProcess (r : Process) : Type 0 where
  pub current : lawful r.current ≡ true
  pub readmark : lawful r.readmark ≡ true
  pub writemark : lawful r.writemark ≡ true

-- of an object with number t: its parent, n - 1 where n is not 0, is an earlier directory
abbrev pub kind_at : Facility → ℕ → ℕ
kind_at f t = (object_of f t).kind

abbrev pub ParentFit : Facility → ℕ → ℕ → Type 0
ParentFit f t n = n ≢ 0 → (n - 1 < t) × (kind_at f (n - 1) ≡ 1)

pub record Regular (f : Facility) : Type 0 where
  pub sound : Sound f
  pub switches : allowed_by switches_kind (switches_record (switches_of f)) ≡ true
  pub user : (u : ℕ) → u < f.users → allowed_by users_kind (user_record (user_of f u)) ≡ true
  pub object : (t : ℕ) → t < f.entered → allowed_by objects_kind (object_record (object_of f t)) ≡ true
  pub parent : (t : ℕ) → t < f.entered → ParentFit f t (object_of f t).parent
  pub process : (p : ℕ) → LawfulProcess (process_of f p)

-- each way of changing a facility keeps it
regular_process : (f : Facility) (p : ℕ) (r : Process) → Regular f → p < most_processes → LawfulProcess r → Regular (put_process f p r)
unfolding put_process
regular_process f p r R h L =
    record {
      sound = sound_process f p r R.sound;
      switches = R.switches;
      user = R.user;
      object = R.object;
      parent = R.parent;
      process = each f p r (λ q x. LawfulProcess x) R.sound.shaped h L (λ q n. R.process q);
    }

regular_opens : (f : Facility) (l : List ℕ) → length l ≡ most_opens → Regular f → Regular (put_opens f l)
unfolding put_opens
regular_opens f l e R =
    record {
      sound = sound_opens f l e R.sound;
      switches = R.switches;
      user = R.user;
      object = R.object;
      parent = R.parent;
      process = R.process;
    }

regular_counted : (f : Facility) (u : ℕ) → Regular f → Regular (counted f u)
unfolding counted put_refusals
regular_counted f u R =
    record {
      sound = sound_counted f u R.sound;
      switches = R.switches;
      user = R.user;
      object = R.object;
      parent = R.parent;
      process = R.process;
    }

regular_drop : (f : Facility) (t : ℕ) → Regular f → Regular (drop_object f t)
unfolding drop_object object_in
regular_drop f t R =
    record {
      sound = sound_drop f t R.sound;
      switches = R.switches;
      user = R.user;
      object = R.object;
      parent = R.parent;
      process = R.process;
    }

pub regular_user : (f : Facility) (u : User) → Regular f → f.users < most_users → allowed_by users_kind (user_record u) ≡ true → Regular (put_user f u)
unfolding put_user
regular_user f u R h a =
    record {
      sound = sound_user f u h R.sound;
      switches = R.switches;
      user = λ v b.
          by_eq v f.users
          (λ e. subst⁻¹ (λ (k : ℕ). allowed_by users_kind (user_record (user_of (put_user f u) k)) ≡ true) e (rw (user_new f u R.sound.shaped h) a))
          (λ n. rw (user_old f u v n) (R.user v (omega arith)));
      object = R.object;
      parent = R.parent;
      process = R.process;
    }

-- a new object's parent, and those of the old ones
parents_new : (f : Facility) (o : Object) → Regular f → f.entered < most_objects → ParentFit f f.entered o.parent
    → (t : ℕ) → t < f.entered + 1 → ParentFit (put_object f o) t (object_of (put_object f o) t).parent
parents_new f o R h pf t b =
    by_eq t f.entered
    (λ e. subst⁻¹ (λ (k : ℕ). ParentFit (put_object f o) k (object_of (put_object f o) k).parent) e
    (subst⁻¹ (λ (x : Object). ParentFit (put_object f o) f.entered x.parent) (object_new f o R.sound.shaped h)
    (old f.entered o.parent (omega arith) pf)))
    (λ n. subst⁻¹ (λ (x : Object). ParentFit (put_object f o) t x.parent) (object_old f o t n)
    (old t _ (omega arith) (R.parent t (omega arith))))
  where
    old : (k n : ℕ) → k ≤ f.entered → ParentFit f k n → ParentFit (put_object f o) k n
    old k n l p z = let (a, b) = p z in (a, ap (λ (x : Object). x.kind) (object_old f o (n - 1) (omega arith)) ∙ b)

pub regular_object : (f : Facility) (o : Object) → Regular f → f.entered < most_objects → allowed_by objects_kind (object_record o) ≡ true
    → ParentFit f f.entered o.parent → Regular (put_object f o)
unfolding put_object
regular_object f o R h a pf =
    record {
      sound = sound_object f o h R.sound;
      switches = R.switches;
      user = R.user;
      object = λ t b.
          by_eq t f.entered
          (λ e. subst⁻¹ (λ (k : ℕ). allowed_by objects_kind (object_record (object_of (put_object f o) k)) ≡ true) e (rw (object_new f o R.sound.shaped h) a))
          (λ n. rw (object_old f o t n) (R.object t (omega arith)));
      parent = parents_new f o R h pf;
      process = R.process;
    }

-- what an allowed object's bytes tell
pub allowed_kind : (o : Object) → allowed_by objects_kind (object_record o) ≡ true → o.kind ≤ 3
unfolding allowed_by
allowed_kind o h = leb-true _ _ (and_l _ _ h)

allowed_set : (o : Object) → allowed_by objects_kind (object_record o) ≡ true → leb o.label.set all_categories ≡ true
unfolding allowed_by
allowed_set o h = and_l _ _ (and_r _ _ (and_r _ _ (and_r _ _ (and_r _ _ (and_r _ _ (and_r _ _ h))))))

pub allowed_label : (o : Object) → allowed_by objects_kind (object_record o) ≡ true → given o.label ≡ true → lawful o.label ≡ true
unfolding allowed_by
allowed_label o h g =
    or_cases _ _ (and_l _ _ (and_r _ _ h)) (λ e. label_lawful _ _ e (allowed_set o h)) (λ e. clash g (unset_level _ _ e))

pub allowed_clearance : (u : User) → allowed_by users_kind (user_record u) ≡ true → lawful u.clearance ≡ true
unfolding allowed_by
allowed_clearance u h = label_lawful _ _ (and_l _ _ h) (and_l _ _ (and_r _ _ (and_r _ _ (and_r _ _ h))))

-- a created object's bytes are allowed
first_parent_small : (e t : ℕ) → first_parent e t ≤ 255
unfolding first_parent
first_parent_small e t =
    by_test (in_directory e and ltb t most_objects)
    (λ d. let b : t < most_objects = ltb-true _ _ (and_r _ _ d) in rw d (omega arith))
    (λ d. rw d (omega arith))

created_allowed : (r : Process) (e t : ℕ) → LawfulProcess r → leb e 3 ≡ true → allowed_by objects_kind (object_record (created r e t)) ≡ true
unfolding allowed_by first_flags ◌and◌ ◌or◌
created_allowed r e t L h =
    by_test (in_directory e)
    (λ d. rw (h, lawful_level _ L.current, d, le-leb _ 255 (first_parent_small e t), lawful_set _ L.current, lawful_not_unset _ L.current) refl)
    (λ d. rw (h, lawful_level _ L.current, d, le-leb _ 255 (first_parent_small e t), lawful_set _ L.current, lawful_not_unset _ L.current) refl)

-- and its parent is the directory that it is created in
created_parent : (f : Facility) (r : Process) (e t : ℕ) → t < f.entered → kind_at f t ≡ 1 → ParentFit f f.entered (created r e t).parent
unfolding first_parent
created_parent f r e t h k =
    by_test (in_directory e and ltb t most_objects)
    (λ d. rw d (λ z. let w : t + 1 - 1 ≡ t = omega arith in (omega arith, ap (kind_at f) w ∙ k)))
    (λ d. rw d (λ z. absurd (z refl)))

no_parent : (f : Facility) (r : Process) (e t : ℕ) → in_directory e ≡ false → ParentFit f f.entered (created r e t).parent
unfolding first_parent ◌and◌
no_parent f r e t d = rw d (λ z. absurd (z refl))

-- the process of a login and that of no process are lawful, and a move keeps that
fresh_lawful : (u : ℕ) → LawfulProcess (fresh_process u)
unfolding fresh_process
fresh_lawful u = record { current = bottom_least _; readmark = bottom_least _; writemark = ⊑_refl _ }

pub none_lawful : LawfulProcess no_process
unfolding no_process
none_lawful = record { current = bottom_least _; readmark = bottom_least _; writemark = bottom_least _ }

move_lawful : (k : Class) (l : Label) (r : Process) → lawful l ≡ true → LawfulProcess r → LawfulProcess (move_by k l r)
unfolding move_by
move_lawful Absent l r h L = L
move_lawful Reads l r h L =
    record { current = join_lawful _ _ L.current h; readmark = join_lawful _ _ L.readmark h; writemark = L.writemark }
move_lawful Writes l r h L = record { current = h; readmark = L.readmark; writemark = meet_lawful _ _ L.writemark }
move_lawful Both l r h L = record { current = h; readmark = h; writemark = h }
move_lawful NoCondition l r h L = L

-- the caller's process after an accepted call
moved_lawful : (v : View) (c : Call) → LawfulProcess v.caller → allowed_by objects_kind (object_record v.target.object) ≡ true
    → (on v.switches.mac ≡ true → passes (mac_object (class_in v c) v.target.object v.caller v.owner) ≡ true) → LawfulProcess (moved v c)
unfolding moved ◌and◌
moved_lawful v c L a p =
    by_test (on v.switches.mac)
    (λ m. by_test (on v.owner.trusted)
    (λ t. rw (m, t) L)
    (λ t.
    let (g, q) = object_granted (class_in v c) v.target.object v.caller v.owner t (p m) in
    rw (m, t) (move_lawful _ _ _ (allowed_label v.target.object a g) L)))
    (λ m. rw m L)

-- a granted set-level stays under the write mark
set_under : (v : View) (c : Call) → passes (mac_rule SetLevel v c) ≡ true → wanted c ⊑ v.caller.writemark
unfolding mac_rule may_set
set_under v c h = and_l _ _ (and_r _ _ (passes_grant _ h))

levelled_lawful : (v : View) (c : Call) → LawfulProcess v.caller → (on v.switches.mac ≡ true → passes (mac_rule SetLevel v c) ≡ true)
    → LawfulProcess (levelled v c)
unfolding levelled set_level
levelled_lawful v c L h =
    by_test (on v.switches.mac)
    (λ m. rw m (record { current = below_lawful _ _ (set_under v c (h m)) L.writemark; readmark = L.readmark; writemark = L.writemark }))
    (λ m. rw m L)

-- and a signal's receiver
signalled_lawful : (v : View) → LawfulProcess v.target.receiver → LawfulProcess (signalled v)
unfolding signalled
signalled_lawful v L =
    by_test (on v.switches.mac and not (on v.target.owner.trusted))
    (λ e. rw e (record { current = L.current; readmark = L.current; writemark = L.writemark }))
    (λ e. rw e L)

-- what a request on an object does to the opens keeps it
regular_open : (o : OpenChange) (f : Facility) (p t : ℕ) → Regular f → Regular (open_by o f p t)
unfolding open_by
regular_open Keep f p t R = R
regular_open (Add m) f p t R = regular_opens f _ (simp length-set R.sound.shaped.opens) R
regular_open Close f p t R = regular_opens f _ (simp length-set R.sound.shaped.opens) R
regular_open CloseAll f p t R = regular_drop _ t (regular_opens f _ (length_object_closed _ _ ∙ R.sound.shaped.opens) R)

put_parent : (f : Facility) (p : ℕ) (r : Process) (n : ℕ) → ParentFit f f.entered n
    → ParentFit (put_process f p r) (put_process f p r).entered n
unfolding put_process
put_parent f p r n h = h

put_entered : (f : Facility) (p : ℕ) (r : Process) → (put_process f p r).entered ≡ f.entered
unfolding put_process
put_entered f p r = refl

-- every accepted call keeps it
module _ (f : Facility) (c : Call) (R : Regular f) where
  object_there : live f c.target ≡ true → allowed_by objects_kind (object_record (object_of f c.target)) ≡ true
  object_there h = R.object c.target (R.sound.alive c.target h)

  regular_create : action_of c.request ≡ Create → Passed Create (view_of f c) c → Regular (effect_by Create f c)
  unfolding effect_from mac_rule
  regular_create k q =
      by_test (in_directory c.extra)
      (λ e.
      let v : live f c.target ≡ true = rw e at q.alive in
      let a = object_there v in
      let d = create_directory (kind_at f c.target) (rw (request_create _ k) at (rw e at q.class)) in
      let L = moved_lawful (view_of f c) c (R.process c.process) a (λ m. rw e at (mac_passed Create (view_of f c) c q m)) in
      let h : (put_process f c.process (moved (view_of f c) c)).entered < most_objects
      = rw (put_entered f c.process (moved (view_of f c) c)) (ltb-true _ _ q.room) in
      rw (e, add_object_law (put_process f c.process (moved (view_of f c) c)) (created (moved (view_of f c) c) c.extra c.target) h)
      (regular_object _ _ (regular_process f c.process _ R q.process L) h (created_allowed _ c.extra c.target L q.kind)
      (put_parent f c.process _ _ (created_parent f (moved (view_of f c) c) c.extra c.target (R.sound.alive c.target v) d))))
      (λ e. rw (e, add_object_law f (created (view_of f c).caller c.extra c.target) (ltb-true _ _ q.room))
      (regular_object f _ R (ltb-true _ _ q.room) (created_allowed _ c.extra c.target (R.process c.process) q.kind)
      (no_parent f (view_of f c).caller c.extra c.target e)))

  regular_object_call : Passed OnObject (view_of f c) c → Regular (effect_by OnObject f c)
  unfolding effect_from mac_rule
  regular_object_call q =
      let a = object_there q.alive in
      let L = moved_lawful (view_of f c) c (R.process c.process) a (λ m. mac_passed OnObject (view_of f c) c q m) in
      regular_open (open_change c.request) _ c.process c.target (regular_process f c.process _ R q.process L)

  regular_effect : (k : Action) → action_of c.request ≡ k → Passed k (view_of f c) c → Regular (effect_by k f c)
  unfolding effect_from
  regular_effect Login k q = regular_process f c.process _ R q.process (fresh_lawful c.extra)
  regular_effect Clone k q =
      regular_opens _ _ (length_process_copied _ _ _ ∙ R.sound.shaped.opens)
      (regular_process f c.target _ R (ltb-true _ _ q.cloned) (R.process c.process))
  regular_effect SendSignal k q =
      regular_process f c.target _ R (ltb-true _ _ q.signalled) (signalled_lawful (view_of f c) (R.process c.target))
  regular_effect SetLevel k q =
      regular_process f c.process _ R q.process
      (levelled_lawful (view_of f c) c (R.process c.process) (λ m. mac_passed SetLevel (view_of f c) c q m))
  regular_effect Terminate k q =
      regular_opens _ _ (length_process_closed _ _ ∙ R.sound.shaped.opens)
      (regular_process f c.process _ R q.process none_lawful)
  regular_effect Create k q = regular_create k q
  regular_effect OnObject k q = regular_object_call q
  regular_effect Unknown k q = R

regular_refused : (f : Facility) (u n : ℕ) → Regular f → Regular (after_refusal f u n)
unfolding after_refusal
regular_refused f u n R = by_test (denies n) (λ d. rw d (regular_counted f u R)) (λ d. rw d R)

pub regular_after : (f : Facility) (c : Call) → Regular f → Regular (after f c)
unfolding after
regular_after f c R =
    by_test (accepted f c)
    (λ h. rw h (regular_effect f c R (action_of c.request) refl (passed (action_of c.request) (view_of f c) c (accepted_zero f c h))))
    (λ h. rw h (regular_refused f (owner_in f c) (number f c) R))

pub regular_run : (cs : List Call) (f : Facility) → Regular f → Regular (run f cs)
unfolding run
regular_run [] f R = R
regular_run (c ∷ cs) f R = regular_run cs (after f c) (regular_after f c R)
