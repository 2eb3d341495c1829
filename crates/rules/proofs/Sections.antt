-- The sections of a regular facility: each is one of the table's, and all together are accepted.
use Rattle.std.specs.Prelude.{ℕ, ◌≤◌, ◌<◌, ◌≡◌, refl, true, List, [], ◌∷◌, map}
use Rattle.std.proofs.Common.{arith, eqb-true, le-leb}
use Rattle.rules.specs.Types.{Object, Facility}
use Rattle.labels.proofs.Laws.Decisions.{and_l, and_r, and_i}
use Rattle.state.specs.State.{objects_in, object_in, switches_of, user_of, object_of, live}
use Rattle.rules.specs.Kinds.{SetupRecord, objects_kind, kind_of, count_of, fits, room, allowed_by, allowed, parent_fits}
use Rattle.rules.specs.Setup.{switches_record, user_record, object_record, every, users_of, written_object, written_objects, users_section, objects_section}
use Rattle.rules.specs.Setup.{with_parent, sections, setup_records}
use Rattle.rules.proofs.Regular.{Regular}
use Rattle.rules.proofs.Records.{Accepts}
use Rattle.rules.proofs.Past.{All}
use Rattle.std.proofs.lemmas.List.{length-map}
use Rattle.rules.proofs.Parents.{parent_most}
use Rattle.rules.proofs.Directories.{first_records, parents_fit}
use Rattle.rules.proofs.Listed.{listed_all, listed_length}
use Rattle.rules.proofs.Accepted.{AllAccepted, AlwaysAllowed, no_parents, Section, InTurn, done, next, turn_accepted}

-- an allowed object's record with another parent
other_parent : (o : Object) (n : ℕ) → allowed_by objects_kind (object_record o) ≡ true → n ≤ 255
    → allowed_by objects_kind (object_record (with_parent o n)) ≡ true
unfolding allowed_by
other_parent o n a1 h =
    let a2 = and_r _ _ a1 in
    let a3 = and_r _ _ a2 in
    let a4 = and_r _ _ a3 in
    let a5 = and_r _ _ a4 in
    let a6 = and_r _ _ a5 in
    and_i _ _ (and_l _ _ a1) (and_i _ _ (and_l _ _ a2) (and_i _ _ (and_l _ _ a3) (and_i _ _ (and_l _ _ a4)
    (and_i _ _ (and_l _ _ a5) (and_i _ _ (le-leb n 255 h) (and_r _ _ a6))))))

-- what holds of a live object that is written out
abbrev pub ObjectFit : Object → Type 0
ObjectFit o = (allowed_by objects_kind (object_record o) ≡ true) × (o.live ≡ 1)

written_allowed : (f : Facility) → Regular f → (t : ℕ) → t < f.entered → allowed_by objects_kind (object_record (written_object (objects_in f) t)) ≡ true
written_allowed f R t b =
    let m = parent_most (objects_in f) (object_of f t).parent t (λ z. (R.parent t b z).0) in
    other_parent (object_of f t) _ (R.object t b) (omega (arith, R.sound.entered))

pub objects_fit : (f : Facility) → Regular f → All ObjectFit (written_objects f)
objects_fit f R =
    listed_all ObjectFit f.entered (live f) (written_object (objects_in f)) (λ t b v. (written_allowed f R t b, eqb-true _ _ v))

-- one law for each section
all_map : {A : Type 0} (P : SetupRecord → Type 0) (g : A → SetupRecord) (xs : List A) → All (λ x. P (g x)) xs → All P (map g xs)
all_map P g [] h = tt
all_map P g (x ∷ xs) h = (h.0, all_map P g xs h.1)

map_all : {A : Type 0} (P : SetupRecord → Type 0) (g : A → SetupRecord) (xs : List A) → ((x : A) → P (g x)) → All P (map g xs)
map_all P g [] h = tt
map_all P g (x ∷ xs) h = (h x, map_all P g xs h)

users_section_law : (f : Facility) → Regular f → Section 1 (users_section f)
unfolding kind_of allowed
users_section_law f R =
    let n = listed_length f.users every (user_of f) in
    let m = length-map (users_of f) user_record in
    record {
      kinds = map_all (λ r. r.kind ≡ 1) user_record (users_of f) (λ u. refl);
      few = omega (arith, R.sound.users);
      lawful = all_map AlwaysAllowed user_record (users_of f)
          (listed_all (λ u. AlwaysAllowed (user_record u)) f.users every (user_of f) (λ u b e past. R.user u b));
      parents = λ past z. no_parents 1 (users_section f) past (λ e. absurd (omega arith)) (map_all (λ r. r.kind ≡ 1) user_record (users_of f) (λ u. refl));
    }

objects_section_law : (f : Facility) → Regular f → Section 2 (objects_section f)
unfolding kind_of allowed object_in first_records
objects_section_law f R =
    let n = listed_length f.entered (live f) (written_object (objects_in f)) in
    let m = length-map (written_objects f) object_record in
    record {
      kinds = map_all (λ r. r.kind ≡ 2) object_record (written_objects f) (λ o. refl);
      few = omega (arith, R.sound.entered);
      lawful = all_map AlwaysAllowed object_record (written_objects f)
          (listed_all (λ o. AlwaysAllowed (object_record o)) f.entered (live f) (written_object (objects_in f))
          (λ t b e past. written_allowed f R t b));
      parents = λ past z. parents_fit (objects_in f) past z f.entered (λ t b. R.parent t b);
    }

-- all sections, one after the other
abbrev pub kinds_in_turn : List ℕ
kinds_in_turn = 1 ∷ 2 ∷ []

pub in_turn : (f : Facility) → Regular f → InTurn f 2 kinds_in_turn sections
unfolding kind_of
in_turn f R =
    next 2 1 _ users_section _ (omega arith) (omega arith) (users_section_law f R)
    (next 3 2 _ objects_section _ (omega arith) (omega arith) (objects_section_law f R) (done 4))

switches_accepted : (f : Facility) → Regular f → Accepts [] (switches_record (switches_of f))
unfolding kind_of fits room allowed parent_fits count_of
switches_accepted f R = record { fits = refl; room = refl; allowed = R.switches; parent = refl }

pub all_accepted : (f : Facility) → Regular f → AllAccepted [] (setup_records f)
unfolding setup_records kind_of
all_accepted f R =
    (switches_accepted f R, turn_accepted f 2 kinds_in_turn sections (switches_record (switches_of f) ∷ []) (omega arith) (omega arith, tt) (in_turn f R))
