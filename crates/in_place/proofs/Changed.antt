-- The changes of a facility, as stores into its bytes.
use Prim.Native.Nat.{ℕ, ◌+◌, ◌≤◌, ◌<◌, min}
use mathlib.Core.Path.{◌≡◌, ap, refl, ◌∙◌, sym}
use mathlib.Core.List.{List}
use lib.ListN.{set, length, drop, length-take, length-drop}
use lib.Seq.{get_or-set_same}
use native.Mathlib.Omega.{arith}
use lib.Dec.{ltb}
use borrow.Author.Tests.{lt-ltb, le-ltb, ltb-true, ltb-false}
use Rattle.state.specs.declared.Process.{Process}
use Rattle.state.specs.State.{put_process, put_opens, drop_object, users_in, objects_from}
use Rattle.state.specs.State.{users_from, objects_in, processes_in, with, put_user, add_user, put_object, add_object, most_refusals, most_users, one_more}
use Rattle.state.specs.State.{counted}
use Rattle.in_place.specs.Layout.{field_of, facility_of, facility_at}
use Rattle.in_place.specs.Layout.{size, offset, the_opens, whole_size, the_lives, the_categories, the_datatypes, the_kinds, the_levels}
use Rattle.in_place.specs.Layout.{the_entered, the_refusals, the_flags, the_parents, the_sets, the_users}
use Rattle.in_place.specs.Layout.{the_clearances, the_roles, the_trusts, the_clearancesets}
use Rattle.in_place.specs.Stores.{store_in, Becomes, store_user, store_process, store_object, padding_in}
use Rattle.state.specs.declared.Facility.{Facility}
use Rattle.in_place.proofs.Stored.{stored}
use Rattle.labels.proofs.Laws.Decisions.{by_test}
use Rattle.in_place.proofs.Words.{words_length}
use Rattle.state.specs.Laws.ReadBack.{counted_none}
use Rattle.opens.specs.Opens.{most_objects}
use Rattle.labels.specs.Decisions.{at}
use Rattle.state.specs.declared.Object.{Object}
use Rattle.state.specs.declared.User.{User}

-- the stores of a process
pub process_stored : (s m : List ℕ) (p : ℕ) (r : Process) → field_of m ≡ store_process (field_of s) p r → facility_at m ≡ put_process (facility_at s) p r
unfolding facility_at put_process
process_stored s m p r e = ap (λ (g : ℕ → List ℕ). facility_of g) e

-- a store among the marks, and a further one
pub opens_step : (s m : List ℕ) (f : Facility) (l : List ℕ) (i v : ℕ) → facility_at s ≡ put_opens f l → m ≡ store_in s (offset the_opens) (size the_opens) i v
    → facility_at m ≡ put_opens f (set l i v)
unfolding facility_at put_opens
opens_step s m f l i v e h =
    ap (λ (g : ℕ → List ℕ). facility_of g) (stored s m (field_of s) the_opens i v refl h)
    ∙ ap (λ (x : Facility). put_opens x (set x.opens i v)) e

pub opens_first : (s : List ℕ) → facility_at s ≡ put_opens (facility_at s) (facility_at s).opens
unfolding facility_at put_opens
opens_first s = refl

-- the lengths of fields of bytes that are all there
pub field_length : (s : List ℕ) (k : ℕ) → offset k + size k ≤ length s → length (field_of s k) ≡ size k
field_length s k h =
    let a = length-take (size k) (drop (offset k) s) in
    let b = length-drop (offset k) s in
    omega arith

-- a deleted object
pub dropped_is : (m q : List ℕ) (t : ℕ) → q ≡ store_in m (offset the_lives) (size the_lives) t 0 → Becomes m q (drop_object (facility_at m) t)
unfolding facility_at drop_object
dropped_is m q t h =
    let e = stored m q (field_of m) the_lives t 0 refl h in
    (ap (λ (g : ℕ → List ℕ). facility_of g) e, ap padding_in e)

-- a user more, and an object more
user_with : (ℕ → List ℕ) → User → ℕ → ℕ → Facility
user_with g u n users =
    with (facility_of g) users
    (users_from (set (g the_clearances) n u.clearance.level) (set (g the_roles) n u.role) (set (g the_trusts) n u.trusted)
    (set (g the_clearancesets) n u.clearance.set))
    (facility_of g).entered (objects_in (facility_of g)) (processes_in (facility_of g)) (g the_opens) (facility_of g).refusals

pub user_added : (s m q : List ℕ) (u : User) (n : ℕ) → length s ≡ whole_size → n ≡ at (field_of s the_users) 0 → n < most_users → field_of m ≡ store_user
    (field_of s) n u
    → q ≡ store_in m (offset the_users) (size the_users) 0 (n + 1) → Becomes s q (add_user (facility_at s) u)
unfolding facility_at add_user put_user user_with
user_added s m q u n l e b d h =
    let g = field_of s in
    let w : at (g the_users) 0 < most_users = omega arith in
    let t = stored m q (store_user g n u) the_users 0 (n + 1) d h in (
      ap (λ (x : ℕ → List ℕ). facility_of x) t
          ∙ ap (user_with g u n) (get_or-set_same (g the_users) 0 (n + 1) 0 (omega (arith, field_length s the_users (omega arith))))
          ∙ ap (λ (k : ℕ). user_with g u k (k + 1)) e
          ∙ rw (lt-ltb (at (g the_users) 0) most_users w),
      ap padding_in t,
    )

pub users_full : (s : List ℕ) (u : User) (n : ℕ) → n ≡ at (field_of s the_users) 0 → most_users ≤ n → facility_at s ≡ add_user (facility_at s) u
unfolding facility_at add_user
users_full s u n e b =
    let w : most_users ≤ at (field_of s the_users) 0 = omega arith in
    rw (le-ltb (at (field_of s the_users) 0) most_users w)

object_with : (ℕ → List ℕ) → Object → ℕ → ℕ → Facility
object_with g o n entered =
    with (facility_of g) (facility_of g).users (users_in (facility_of g)) entered
    (objects_from (set (g the_lives) n o.live) (set (g the_kinds) n o.kind) (set (g the_levels) n o.label.level)
    (set (g the_categories) n o.category) (set (g the_datatypes) n o.datatype) (set (g the_flags) n o.flags) (set (g the_parents) n o.parent)
    (set (g the_sets) n o.label.set))
    (processes_in (facility_of g)) (g the_opens) (facility_of g).refusals

pub added_is : (s m q : List ℕ) (o : Object) (n : ℕ) → length s ≡ whole_size → n ≡ at (field_of s the_entered) 0 → n < most_objects → field_of m ≡ store_object
    (field_of s) n o
    → q ≡ store_in m (offset the_entered) (size the_entered) 0 (n + 1) → facility_at q ≡ add_object (facility_at s) o
unfolding facility_at add_object put_object object_with
added_is s m q o n l e b d h =
    let g = field_of s in
    let w : at (g the_entered) 0 < most_objects = omega arith in
    ap (λ (x : ℕ → List ℕ). facility_of x) (stored m q (store_object g n o) the_entered 0 (n + 1) d h)
    ∙ ap (object_with g o n) (get_or-set_same (g the_entered) 0 (n + 1) 0 (omega (arith, field_length s the_entered (omega arith))))
    ∙ ap (λ (k : ℕ). object_with g o k (k + 1)) e
    ∙ rw (lt-ltb (at (g the_entered) 0) most_objects w)

pub full_is : (s : List ℕ) (o : Object) (n : ℕ) → n ≡ at (field_of s the_entered) 0 → most_objects ≤ n → facility_at s ≡ add_object (facility_at s) o
unfolding facility_at add_object
full_is s o n e b =
    let w : most_objects ≤ at (field_of s the_entered) 0 = omega arith in
    rw (le-ltb (at (field_of s the_entered) 0) most_objects w)

-- the counters
pub one_more_is : (n r : ℕ) → n ≡ r → n < 4294967296 → min (n + 1) most_refusals ≡ one_more most_refusals r
one_more_is n r e h =
    let p : min (n + 1) most_refusals ≡ one_more most_refusals n =
    by_test (ltb n most_refusals)
    (λ t. let w = ltb-true n most_refusals t in rw t (omega arith))
    (λ t. let w = ltb-false n most_refusals t in rw t (omega arith)) in
    p ∙ ap (one_more most_refusals) e

pub none_is : (s : List ℕ) (u : ℕ) → most_users ≤ u → facility_at s ≡ counted (facility_at s) u
unfolding facility_at
none_is s u h = sym (counted_none (facility_at s) u (words_length (field_of s the_refusals)) h)
