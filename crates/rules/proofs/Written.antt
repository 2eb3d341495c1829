-- Reading and then writing out: each accepted record is written last of all, so that a list of them is written out as it was.
use Rattle.std.specs.Prelude.{ℕ, suc, ◌<◌, ◌≡◌, refl, true}
use Rattle.std.proofs.Common.{sym, ◌∙◌, arith, add-one}
use Rattle.std.proofs.Math.Path.{ap}
use mathlib.Core.List.{List, [], ◌∷◌, ◌++◌, map, append_assoc, map-append, append-nil}
use Rattle.rules.specs.Types.{User, Object, Facility}
use Rattle.labels.specs.Decisions.{at, on}
use Rattle.state.specs.Shaped.{Shaped}
use Rattle.state.specs.Laws.ReadBack.{user_new, user_old, object_new, object_old}
use Rattle.state.specs.State.{most_users, objects_in, object_in, switches_of, all_off, user_of, object_of, live, put_user, put_object, blank}
use Rattle.opens.specs.Opens.{most_objects}
use Rattle.rules.specs.Kinds.{SetupRecord, kind_of, place_of}
use Rattle.rules.specs.Setup.{switches_entered, user_entered, object_entered, enter_record, switches_record, user_record, object_record, listed, every}
use Rattle.rules.specs.Setup.{users_of, with_parent, renumbered, written_object, written_objects, users_section, objects_section, sections, together}
use Rattle.rules.specs.Setup.{setup_records}
use Rattle.rules.proofs.Regular.{ParentFit, Regular}
use Rattle.rules.proofs.Records.{Accepts, by_kind}
use Rattle.rules.proofs.Past.{Under, under_weaker, under_none, later_place, InOrder, order_under, order_more}
use Rattle.rules.proofs.Listed.{listed_next}
use Rattle.rules.proofs.Parents.{parent_same, parent_all}
use Rattle.rules.proofs.Fresh.{Fresh, Told, Read, AsUser, AsObject, as_user, as_object, as_switches, read_record, read_none}
use Rattle.rules.proofs.Accepted.{AllAccepted, enter_each}

-- what a new user and a new object do to the lists that are written out
more_users : (f : Facility) (u : User) → (put_user f u).users ≡ suc f.users
unfolding put_user
more_users f u = add-one f.users

more_objects : (f : Facility) (o : Object) → (put_object f o).entered ≡ suc f.entered
unfolding put_object
more_objects f o = add-one f.entered

new_user : (f : Facility) (u : User) → Shaped f → f.users < most_users → users_of (put_user f u) ≡ users_of f ++ (u ∷ [])
new_user f u s h =
    ap (λ (n : ℕ). listed n every (user_of (put_user f u))) (more_users f u)
    ∙ listed_next f.users every every (user_of f) (user_of (put_user f u)) (λ v b. refl) (λ v b. user_old f u v (omega arith)) refl
    ∙ ap (λ (x : User). users_of f ++ (x ∷ [])) (user_new f u s h)

-- the lives of the objects before a new one, and so their parents' new numbers, stay
lives_kept : (f : Facility) (o : Object) (t : ℕ) → t < f.entered → at (objects_in (put_object f o)).lives t ≡ at (objects_in f).lives t
unfolding object_in
lives_kept f o t h = ap (λ (x : Object). x.live) (object_old f o t (omega arith))

old_written : (f : Facility) (o : Object) → Regular f → (t : ℕ) → t < f.entered
    → written_object (objects_in (put_object f o)) t ≡ written_object (objects_in f) t
old_written f o R t b =
    let y = objects_in (put_object f o) in
    ap (renumbered y) (object_old f o t (omega arith))
    ∙ ap (with_parent (object_of f t)) (parent_same (objects_in f) y (object_of f t).parent f.entered
    (λ z. let p = (R.parent t b z).0 in omega arith) (λ u c. lives_kept f o u c))

-- a new one is written as it is where all before it live
new_written : (f : Facility) (o : Object) → Fresh f → f.entered < most_objects → ParentFit f f.entered o.parent
    → written_object (objects_in (put_object f o)) f.entered ≡ o
unfolding object_in
new_written f o F h pf =
    let y = objects_in (put_object f o) in
    ap (renumbered y) (object_new f o F.regular.sound.shaped h)
    ∙ ap (with_parent o) (parent_all y o.parent f.entered (λ z. (pf z).0)
    (λ t b. ap (λ (n : ℕ). on n) (lives_kept f o t b) ∙ F.whole t b))

new_object : (f : Facility) (o : Object) → Fresh f → f.entered < most_objects → ParentFit f f.entered o.parent → on o.live ≡ true
    → written_objects (put_object f o) ≡ written_objects f ++ (o ∷ [])
new_object f o F h pf v =
    let y = objects_in (put_object f o) in
    let new = object_new f o F.regular.sound.shaped h in
    ap (λ (n : ℕ). listed n (live (put_object f o)) (written_object y)) (more_objects f o)
    ∙ listed_next f.entered (live f) (live (put_object f o)) (written_object (objects_in f)) (written_object y)
    (λ t b. ap (λ (x : Object). on x.live) (object_old f o t (omega arith))) (old_written f o F.regular)
    (ap (λ (x : Object). on x.live) new ∙ v)
    ∙ ap (λ (x : Object). written_objects f ++ (x ∷ [])) (new_written f o F h pf)

-- The argument over sections: those before r's own stay, r's own has r more, those after it are empty.
data Grown (f g : Facility) (r : SetupRecord) : List (Facility → List SetupRecord) → Type 0 where
  here : (s : Facility → List SetupRecord) (ss : List (Facility → List SetupRecord)) → s g ≡ s f ++ (r ∷ []) → together ss f ≡ [] → together ss g ≡ []
      → Grown f g r (s ∷ ss)
  there : (s : Facility → List SetupRecord) (ss : List (Facility → List SetupRecord)) → s g ≡ s f → Grown f g r ss → Grown f g r (s ∷ ss)

grown : (f g : Facility) (r : SetupRecord) (ss : List (Facility → List SetupRecord)) → Grown f g r ss → together ss g ≡ together ss f ++ (r ∷ [])
grown f g r (s ∷ ss) (here t ts e a b) =
    (λ i. e i ++ b i) ∙ append-nil _
    ∙ sym (ap (λ (l : List SetupRecord). l ++ (r ∷ [])) (ap (λ (l : List SetupRecord). s f ++ l) a ∙ append-nil (s f)))
grown f g r (s ∷ ss) (there t ts e h) =
    (λ i. e i ++ grown f g r ss h i) ∙ sym (append_assoc (s f) (together ss f) (r ∷ []))
grown f g r [] x' = elim x' [ ]

written_more : (f g : Facility) (r : SetupRecord) → switches_of g ≡ switches_of f → Grown f g r sections → setup_records g ≡ setup_records f ++ (r ∷ [])
unfolding setup_records
written_more f g r e G = λ i. switches_record (e i) ∷ grown f g r sections G i

-- sections of places that no record read so far has are empty
module _ (past : List SetupRecord) (f : Facility) (T : Told past f) where
  objects_none : Under 3 past → objects_section f ≡ []
  unfolding kind_of listed
  objects_none u = ap (λ (n : ℕ). map object_record (listed n (live f) (written_object (objects_in f)))) (T.entered ∙ under_none 2 past u)

  users_none : Under 2 past → users_section f ≡ []
  unfolding kind_of listed
  users_none u = ap (λ (n : ℕ). map user_record (listed n every (user_of f))) (T.users ∙ under_none 1 past u)

  none_from_3 : Under 3 past → together (objects_section ∷ []) f ≡ []
  none_from_3 u = rw (objects_none u)

  none_from_2 : Under 2 past → together sections f ≡ []
  none_from_2 u = rw (users_none u) (none_from_3 (under_weaker 2 3 past (omega arith) u))

-- each kind's own law: its section has the record more
users_grow : (f : Facility) (r : SetupRecord) → Fresh f → AsUser f r → users_section (put_user f (user_entered r)) ≡ users_section f ++ (r ∷ [])
users_grow f r F U =
    ap (map user_record) (new_user f (user_entered r) F.regular.sound.shaped U.room) ∙ map-append user_record (users_of f) (user_entered r ∷ [])
    ∙ ap (λ (x : SetupRecord). users_section f ++ (x ∷ [])) U.is

objects_grow : (f : Facility) (r : SetupRecord) → Fresh f → AsObject f r → objects_section (put_object f (object_entered r)) ≡ objects_section f ++ (r ∷ [])
objects_grow f r F O =
    ap (map object_record) (new_object f (object_entered r) F O.room O.parent refl)
    ∙ map-append object_record (written_objects f) (object_entered r ∷ [])
    ∙ ap (λ (x : SetupRecord). objects_section f ++ (x ∷ [])) O.is

user_switches : (f : Facility) (u : User) → switches_of (put_user f u) ≡ switches_of f
unfolding put_user
user_switches f u = refl

object_switches : (f : Facility) (o : Object) → switches_of (put_object f o) ≡ switches_of f
unfolding put_object
object_switches f o = refl

object_users : (f : Facility) (o : Object) → users_section (put_object f o) ≡ users_section f
unfolding put_object
object_users f o = refl

module _ (past : List SetupRecord) (f : Facility) (r : SetupRecord) (D : Read past f) (u : Under (suc (place_of r)) past) where
  grow_user : r.kind ≡ 1 → AsUser f r → Told (r ∷ past) (put_user f (user_entered r))
      → setup_records (put_user f (user_entered r)) ≡ setup_records f ++ (r ∷ [])
  unfolding kind_of
  grow_user e U T =
      let v : Under 3 past = rw e at u in
      written_more f _ r (user_switches f _)
      (here users_section _ (users_grow f r D.0 U) (none_from_3 past f D.1 v) (none_from_3 (r ∷ past) _ T (rw e (omega arith), v)))

  grow_object : r.kind ≡ 2 → AsObject f r → setup_records (put_object f (object_entered r)) ≡ setup_records f ++ (r ∷ [])
  grow_object e O =
      written_more f _ r (object_switches f _)
      (there users_section _ (object_users f _) (here objects_section _ (objects_grow f r D.0 O) refl refl))

record_written : (q : SetupRecord) (past : List SetupRecord) (f : Facility) (r : SetupRecord) → Read (q ∷ past) f → InOrder (q ∷ past)
    → Accepts (q ∷ past) r → setup_records (enter_record f r) ≡ setup_records f ++ (r ∷ [])
record_written q past f r D o A =
    let u = order_under (q ∷ past) r A.fits o in
    let (G, W) = read_record (q ∷ past) f r D A in
    by_kind r.kind (later_place q past r A.fits)
    (λ e. let U = as_user (q ∷ past) f r D.1 A e in rw U.entered (grow_user (q ∷ past) f r D u e U (rw U.entered at W)))
    (λ e. let O = as_object (q ∷ past) f r D.1 A e in rw O.entered (grow_object (q ∷ past) f r D u e O))

all_written : (rs : List SetupRecord) (q : SetupRecord) (past : List SetupRecord) (f : Facility) → Read (q ∷ past) f → InOrder (q ∷ past)
    → AllAccepted (q ∷ past) rs → setup_records (enter_each f rs) ≡ setup_records f ++ rs
unfolding enter_each
all_written [] q past f D o J = sym (append-nil _)
all_written (r ∷ rs) q past f D o J =
    all_written rs r (q ∷ past) (enter_record f r) (read_record (q ∷ past) f r D J.0) (order_more (q ∷ past) r J.0.fits o) J.1
    ∙ ap (λ (l : List SetupRecord). l ++ rs) (record_written q past f r D o J.0) ∙ append_assoc (setup_records f) (r ∷ []) rs

blank_switches : (r : SetupRecord) → switches_of (blank (switches_entered r)) ≡ switches_entered r
unfolding blank
blank_switches r = refl

first_written : (r : SetupRecord) → Accepts [] r → setup_records (enter_record (blank all_off) r) ≡ r ∷ []
unfolding setup_records kind_of
first_written r A =
    let (entered, is, e) = as_switches (blank all_off) r A in
    let (F, T) = read_record [] (blank all_off) r read_none A in
    let n = none_from_2 (r ∷ []) (enter_record (blank all_off) r) T (rw e (omega arith), tt) in
    let s : switches_record (switches_of (enter_record (blank all_off) r)) ≡ r = ap (λ (f : Facility). switches_record (switches_of f)) entered
    ∙ ap switches_record (blank_switches r) ∙ is in
    λ i. s i ∷ n i

pub accepted_written : (r : SetupRecord) (rs : List SetupRecord) → AllAccepted [] (r ∷ rs) → setup_records (enter_each (blank all_off) (r ∷ rs)) ≡ r ∷ rs
unfolding enter_each
accepted_written r rs J =
    all_written rs r [] (enter_record (blank all_off) r) (read_record [] (blank all_off) r read_none J.0) (order_more [] r J.0.fits tt) J.1
    ∙ ap (λ (l : List SetupRecord). l ++ rs) (first_written r J.0)
