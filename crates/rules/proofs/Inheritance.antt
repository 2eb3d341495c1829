-- File flags: proved.
use Rattle.std.specs.Prelude.{ℕ, zero, suc, ◌+◌, ◌-◌, ◌≤◌, ◌<◌, ◌≡◌, ◌≢◌, true, cond}
use Rattle.std.proofs.Math.Path.{refl, sym, ap}
use Rattle.std.proofs.Common.{◌∙◌, subst}
use Rattle.std.proofs.Math.Bool.{false}
use mathlib.Core.List.{List, [], ◌∷◌, ◌++◌}
use Rattle.std.specs.Int.Bits.{bit_or}
use Rattle.std.proofs.Math.ListN.{length, get_or, get_or-append}
use Rattle.std.proofs.Math.Seq.{get_or-append_seam}
use native.Mathlib.Omega.{arith}
use borrow.Author.Tests.{ltb-true, lt-ltb, le-leb}
use Rattle.labels.specs.Decisions.{◌and◌, at, on}
use Rattle.labels.proofs.Laws.Decisions.{and_l, and_r, and_i, by_test, by_eq}
use Rattle.state.specs.State.{Objects, objects_in, object_in, object_of, live, put_process, put_object}
use Rattle.state.specs.Laws.ReadBack.{object_new, object_old, add_object_law}
use Rattle.opens.specs.Opens.{most_objects}
use Rattle.rules.specs.Types.{Call, Process, Object, Facility}
use Rattle.rules.specs.Requests.{action_of, is_create, in_directory}
use Rattle.rules.specs.FileFlags.{add_inherited, without_no_delete, flags_of, parent_of, has_parent, inherits, effective, has}
use Rattle.rules.specs.Modules.{view_of, moved}
use Rattle.rules.specs.Effects.{first_flags, first_parent, created, effect_from}
use Rattle.rules.specs.Calls.{accepted, after}
use Rattle.rules.specs.Histories.{run}
use Rattle.rules.specs.Setup.{fresh, listed, live_objects, new_number, new_parent, written_object, written_objects, setup_bytes}
use Rattle.rules.specs.Promises.{Inheritance}
use Rattle.rules.proofs.Sound.{Sound, sound_process}
use Rattle.rules.proofs.Passed.{create_passed}
use Rattle.rules.proofs.Regular.{Regular, regular_run}
use Rattle.rules.proofs.Fresh.{Fresh, fresh_setup}
use Rattle.rules.proofs.Parents.{lives, new_below, new_all, listed_number, parent_none, parent_live, parent_dead}
use Rattle.rules.proofs.Flags.{parent_before, inheriting, effective_is, effective_told, source_of, source_own, each_forbids}
use Rattle.rules.proofs.RoundTrips.{round_trips}

-- the item of a live object stands at its new number
listed_at : {A : Type 0} (x : Objects) (n : ℕ) (item : ℕ → A) (t : ℕ) (d : A) → t < n → lives x t
    → get_or (listed n (λ u. on (object_in x u).live) item) (new_number x t) d ≡ item t
unfolding listed object_in
listed_at x zero item t d h v = absurd (omega arith)
listed_at {A} x (suc n) item t d h v =
    by_eq t n
    (λ e. subst (λ (m : ℕ). get_or (firsts m ++ cond (on (at x.lives m)) (item m ∷ []) []) (new_number x t) d ≡ item t) e
    (rw v (subst (λ (k : ℕ). get_or (firsts t ++ (item t ∷ [])) k d ≡ item t) (listed_number x t item)
    (get_or-append_seam (firsts t) (item t) [] d))))
    (λ z.
    let b : t < n = omega arith in
    let l = new_below x t n b v in
    let e = listed_number x n item in
    get_or-append (firsts n) _ d (new_number x t) (omega arith) ∙ listed_at x n item t d b v)
  where
    firsts : ℕ → List A
    firsts m = listed m (λ u. on (at x.lives u)) item

parent_facts : (x : Objects) (t : ℕ) → has_parent x t ≡ true → (parent_of x t ≢ 0) × lives x (parent_of x t - 1)
unfolding has_parent
parent_facts x t h = let a = ltb-true 0 (parent_of x t) (and_l _ _ h) in ((λ z. absurd (omega arith)), and_r _ _ (and_r _ _ h))

lives_of : (f : Facility) (t : ℕ) → live f t ≡ true → lives (objects_in f) t
unfolding object_in
lives_of f t v = v

of_lives : (f : Facility) (t : ℕ) → lives (objects_in f) t → live f t ≡ true
unfolding object_in
of_lives f t v = v

-- g is fresh, and its objects are the live ones of f as they are written out
module _ (f g : Facility) (R : Regular f) (G : Fresh g) (e : live_objects g ≡ written_objects f) where
  x : Objects
  x = objects_in f

  all_live : (t : ℕ) → t < g.entered → lives (objects_in g) t
  all_live t b = lives_of g t (G.whole t b)

  entered_as : g.entered ≡ new_number x f.entered
  unfolding x
  entered_as =
      sym (listed_number (objects_in g) g.entered (object_of g) ∙ new_all (objects_in g) g.entered all_live)
      ∙ ap length e ∙ listed_number (objects_in f) f.entered (written_object (objects_in f))

  below_entered : (t : ℕ) → live f t ≡ true → new_number x t < g.entered
  unfolding x
  below_entered t v =
      let q = new_below (objects_in f) t f.entered (R.sound.alive t v) (lives_of f t v) in
      let r = entered_as in
      omega arith

  object_as : (t : ℕ) → live f t ≡ true → object_of g (new_number x t) ≡ written_object x t
  unfolding x
  object_as t v =
      let k = below_entered t v in
      let d = object_of f 0 in
      sym (listed_at (objects_in g) g.entered (object_of g) (new_number (objects_in f) t) d k (all_live _ k))
      ∙ ap (λ (n : ℕ). get_or (live_objects g) n d) (new_all (objects_in g) (new_number (objects_in f) t) (λ u c. all_live u (omega arith)))
      ∙ ap (λ (l : List Object). get_or l (new_number (objects_in f) t) d) e
      ∙ listed_at (objects_in f) f.entered (written_object (objects_in f)) t d (R.sound.alive t v) (lives_of f t v)

  flags_as : (t : ℕ) → live f t ≡ true → flags_of (objects_in g) (new_number x t) ≡ flags_of (objects_in f) t
  unfolding x object_in
  flags_as t v = ap (λ (o : Object). o.flags) (object_as t v)

  parent_as : (t : ℕ) → live f t ≡ true → parent_of (objects_in g) (new_number x t) ≡ new_parent (objects_in f) (parent_of (objects_in f) t)
  unfolding x object_in
  parent_as t v = ap (λ (o : Object). o.parent) (object_as t v)

  -- a parent that counts, and one that does not
  parent_new : (t : ℕ) → live f t ≡ true → has_parent (objects_in f) t ≡ true
      → parent_of (objects_in g) (new_number x t) ≡ new_number x (parent_of (objects_in f) t - 1) + 1
  unfolding x
  parent_new t v h = let (z, w) = parent_facts (objects_in f) t h in parent_as t v ∙ parent_live (objects_in f) _ z w

  parent_gone : (t : ℕ) → live f t ≡ true → has_parent (objects_in f) t ≡ false → parent_of (objects_in g) (new_number x t) ≡ 0
  unfolding has_parent object_in ◌and◌
  parent_gone t v h =
      by_eq (parent_of (objects_in f) t) 0
      (λ z. parent_as t v ∙ ap (new_parent (objects_in f)) z ∙ parent_none (objects_in f))
      (λ z.
      let (b, k) = R.parent t (R.sound.alive t v) z in
      let p : 0 < parent_of (objects_in f) t = omega arith in
      let q : parent_of (objects_in f) t ≤ t = omega arith in
      let w : on (at (objects_in f).lives (parent_of (objects_in f) t - 1)) ≡ false = rw (lt-ltb _ _ p, le-leb _ _ q) at h in
      parent_as t v ∙ parent_dead (objects_in f) (parent_of (objects_in f) t) w)

  still_counts : (t : ℕ) → live f t ≡ true → has_parent (objects_in f) t ≡ true → has_parent (objects_in g) (new_number x t) ≡ true
  unfolding has_parent x
  still_counts t v h =
      let (z, w) = parent_facts (objects_in f) t h in
      let n = new_number x (parent_of (objects_in f) t - 1) in
      let l : n < new_number x t = new_below x (parent_of (objects_in f) t - 1) t (parent_before (objects_in f) t h) w in
      let c : new_number x t < g.entered = below_entered t v in
      let d : n + 1 - 1 ≡ n = omega arith in
      rw (parent_new t v h, d)
      (and_i _ _ (lt-ltb 0 (n + 1) (omega arith)) (and_i _ _ (le-leb (n + 1) (new_number x t) (omega arith)) (all_live n (omega arith))))

  still_none : (t : ℕ) → live f t ≡ true → has_parent (objects_in f) t ≡ false → has_parent (objects_in g) (new_number x t) ≡ false
  unfolding has_parent ◌and◌
  still_none t v h = rw (parent_gone t v h) refl

  has_as : (t : ℕ) → live f t ≡ true → has_parent (objects_in g) (new_number x t) ≡ has_parent (objects_in f) t
  has_as t v = by_test (has_parent (objects_in f) t) (λ h. still_counts t v h ∙ sym h) (λ h. still_none t v h ∙ sym h)

  inherits_as : (t : ℕ) → live f t ≡ true → inherits (objects_in g) (new_number x t) ≡ inherits (objects_in f) t
  unfolding inherits
  inherits_as t v = rw (flags_as t v, has_as t v)

  kept_below : (n t : ℕ) → t < n → live f t ≡ true → effective (objects_in g) (new_number x t) ≡ effective (objects_in f) t
  kept_below zero t b v = absurd (omega arith)
  kept_below (suc n) t b v =
      effective_is (objects_in g) (new_number x t)
      ∙ rw (flags_as t v, inherits_as t v)
      (by_test (inherits (objects_in f) t)
      (λ i.
      let c = inheriting (objects_in f) t i in
      let l = parent_before (objects_in f) t c in
      let (z, w) = parent_facts (objects_in f) t c in
      let d : parent_of (objects_in g) (new_number x t) - 1 ≡ new_number x (parent_of (objects_in f) t - 1)
      = ap (λ (m : ℕ). m - 1) (parent_new t v c) ∙ omega arith in
      ap (λ (m : ℕ). bit_or (flags_of (objects_in f) t) (cond (inherits (objects_in f) t) (without_no_delete m) 0))
      (ap (effective (objects_in g)) d ∙ kept_below n (parent_of (objects_in f) t - 1) (omega arith) (of_lives f _ w)))
      (λ i. rw i))
      ∙ sym (effective_is (objects_in f) t)

-- What is created in a directory: an object with add-inherited and an earlier live parent is put
module _ (f : Facility) (o : Object) (t : ℕ) (S : Sound f) (room : f.entered < most_objects) (v : live f t ≡ true)
    (fl : o.flags ≡ add_inherited) (pa : o.parent ≡ t + 1) where
  new_flags : flags_of (objects_in (put_object f o)) f.entered ≡ add_inherited
  unfolding object_in
  new_flags = ap (λ (x : Object). x.flags) (object_new f o S.shaped room) ∙ fl

  new_parent_law : parent_of (objects_in (put_object f o)) f.entered ≡ t + 1
  unfolding object_in
  new_parent_law = ap (λ (x : Object). x.parent) (object_new f o S.shaped room) ∙ pa

  old_lives : (u : ℕ) → u < f.entered → at (objects_in (put_object f o)).lives u ≡ at (objects_in f).lives u
  unfolding object_in
  old_lives u b = ap (λ (x : Object). x.live) (object_old f o u (omega arith))

  old_flags : (u : ℕ) → u < f.entered → flags_of (objects_in (put_object f o)) u ≡ flags_of (objects_in f) u
  unfolding object_in
  old_flags u b = ap (λ (x : Object). x.flags) (object_old f o u (omega arith))

  old_parents : (u : ℕ) → u < f.entered → parent_of (objects_in (put_object f o)) u ≡ parent_of (objects_in f) u
  unfolding object_in
  old_parents u b = ap (λ (x : Object). x.parent) (object_old f o u (omega arith))

  new_inherits : inherits (objects_in (put_object f o)) f.entered ≡ true
  unfolding inherits has_parent has
  new_inherits =
      let b = S.alive t v in
      let d : t + 1 - 1 ≡ t = omega arith in
      rw (new_flags, new_parent_law, d)
      (and_i _ _ refl (and_i _ _ (lt-ltb 0 (t + 1) (omega arith))
      (and_i _ _ (le-leb (t + 1) f.entered (omega arith)) (rw (old_lives t b) (lives_of f t v)))))

  put_inherits : effective (objects_in (put_object f o)) f.entered ≡ bit_or add_inherited (without_no_delete (effective (objects_in f) t))
  put_inherits =
      let b = S.alive t v in
      let d : parent_of (objects_in (put_object f o)) f.entered - 1 ≡ t = ap (λ (n : ℕ). n - 1) new_parent_law ∙ omega arith in
      effective_is (objects_in (put_object f o)) f.entered
      ∙ rw (new_flags, new_inherits, d)
      (ap (λ (n : ℕ). bit_or add_inherited (without_no_delete n))
      (effective_told f.entered (objects_in f) (objects_in (put_object f o)) old_flags old_parents old_lives t b))

made_in : (f : Facility) (c : Call) (r : Process) → Regular f → f.entered < most_objects → live f c.target ≡ true → in_directory c.extra ≡ true
    → effective (objects_in (put_object (put_process f c.process r) (created r c.extra c.target))) f.entered
    ≡ bit_or add_inherited (without_no_delete (effective (objects_in f) c.target))
unfolding put_process first_flags first_parent ◌and◌
made_in f c r R room v d =
    let b = R.sound.alive c.target v in
    put_inherits (put_process f c.process r) (created r c.extra c.target) c.target (sound_process f c.process r R.sound) room v
    (rw d refl) (rw (d, lt-ltb c.target most_objects (omega arith)) refl)

put_room : (f : Facility) (p : ℕ) (r : Process) → f.entered < most_objects → (put_process f p r).entered < most_objects
unfolding put_process
put_room f p r h = h

created_inherits : (f : Facility) (c : Call) → Regular f → accepted f c ≡ true → is_create (action_of c.request) ≡ true → in_directory c.extra ≡ true
    → effective (objects_in (after f c)) f.entered ≡ bit_or add_inherited (without_no_delete (effective (objects_in f) c.target))
unfolding after effect_from
created_inherits f c R a k d =
    let (e, q) = create_passed f c a k in
    let room : f.entered < most_objects = ltb-true _ _ q.room in
    let v : live f c.target ≡ true = rw d at q.alive in
    let w : (put_process f c.process (moved (view_of f c) c)).entered < most_objects = put_room f c.process _ room in
    rw (a, e, d, add_object_law (put_process f c.process (moved (view_of f c) c)) (created (moved (view_of f c) c) c.extra c.target) w)
    (made_in f c (moved (view_of f c) c) R room v d)

pub inheritance : Inheritance
unfolding x
inheritance =
    record {
      effectively = effective_is;
      parents = λ s cs t b. (regular_run cs (fresh s) (fresh_setup s).regular).parent t b;
      kept = λ s cs t v.
          kept_below (run (fresh s) cs) (fresh (setup_bytes (run (fresh s) cs))) (regular_run cs (fresh s) (fresh_setup s).regular)
          (fresh_setup (setup_bytes (run (fresh s) cs))) (round_trips.read s cs).same.objects (suc t) t (omega arith) v;
      created = λ s cs c a k d. created_inherits (run (fresh s) cs) c (regular_run cs (fresh s) (fresh_setup s).regular) a k d;
      sourced = source_of;
      own = source_own;
      each = λ v request k kind. each_forbids request k kind v;
    }
