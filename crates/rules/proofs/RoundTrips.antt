-- Set-ups read and written out, and written out and read back: proved.
use Rattle.answers.specs.Outcomes.{setup_accepted}
use Rattle.std.specs.Prelude.{ℕ, zero, suc, ◌*◌, ◌/◌, ◌%◌, ◌≤◌, ◌<◌, ◌≡◌, refl, ◌≢◌, true, List, [], ◌∷◌, map, length, take, drop}
use Rattle.std.proofs.Common.{sym, ◌∙◌, ap, subst, drop_at, arith, ltb-true, eqb-true, lt-ltb, le-leb, eq-eqb}
use Rattle.std.proofs.Math.Path.{subst⁻¹}
use Rattle.std.proofs.Math.Seq.{take-append_seam}
use Rattle.std.proofs.lemmas.Bool.{lt-leb}
use Rattle.rules.specs.Types.{User, Object, Facility}
use Rattle.labels.proofs.Laws.Decisions.{and_l, and_r, and_i, clash, by_test}
use Rattle.state.specs.State.{objects_in, object_in, object_of, live, switches_of, all_off, blank}
use Rattle.rules.specs.Histories.{run}
use Rattle.rules.specs.Kinds.{kind_of}
use Rattle.rules.specs.Setup.{records_of, bytes_of_all, allowed_length, sized, switches_entered, user_entered, object_entered, records_in, read_setup, fresh}
use Rattle.rules.specs.Setup.{accepted_setup, is_accepted, switches_record, user_record, object_record, users_of}
use Rattle.rules.specs.Setup.{live_objects, with_parent, written_object, written_objects}
use Rattle.rules.specs.Setup.{sections, together, setup_records, setup_bytes, write_setup}
use Rattle.rules.specs.Promises.{SameSetup, ReadBack, RoundTrips, Lent, Untouched, LentRoundTrips}
use Rattle.rules.proofs.Regular.{Regular, regular_run}
use Rattle.rules.proofs.Bytes.{bytes_of_records, records_of_bytes, bytes_length}
use Rattle.rules.proofs.Past.{All}
use Rattle.rules.proofs.Records.{nineteen}
use Rattle.rules.proofs.Listed.{listed_same}
use Rattle.rules.proofs.Parents.{parent_all}
use Rattle.rules.proofs.Fresh.{Fresh, fresh_setup}
use Rattle.rules.proofs.Accepted.{AllAccepted, enter_each, accepted_read, read_accepted, most_of, turn_few, turn_same}
use Rattle.rules.proofs.Sections.{ObjectFit, objects_fit, kinds_in_turn, in_turn, all_accepted}
use Rattle.rules.proofs.Written.{accepted_written}

-- Reading: an accepted set-up is written out as it was.
sized_length : (s : List ℕ) → sized s ≡ true → (length s ≡ length s / 8 * 8) × (length s / 8 ≢ 0)
unfolding allowed_length
sized_length s e =
    let d : length s % 8 ≡ 0 = eqb-true _ _ (and_l _ _ e) in
    let p : 0 < length s = ltb-true _ _ (and_l _ _ (and_r _ _ e)) in
    (omega arith, omega arith)

from_records : (n : ℕ) (s : List ℕ) → n ≢ 0 → AllAccepted [] (records_of n s) → setup_records (enter_each (blank all_off) (records_of n s)) ≡ records_of n s
unfolding records_of
from_records zero s z J = absurd (z refl)
from_records (suc n) s z J = accepted_written _ _ J

-- an accepted set-up has an allowed length, and its records are those that are written out
pub as_written : (s : List ℕ) → is_accepted (read_setup s).outcome ≡ true
    → (sized s ≡ true) × (setup_records (read_setup s).facility ≡ records_in s)
unfolding read_setup
as_written s h =
    by_test (sized s)
    (λ e.
    let J = read_accepted [] (records_in s) (blank all_off) (rw e at h) in
    rw (e, accepted_read [] (records_in s) (blank all_off) J) (refl, from_records (length s / 8) s (sized_length s e).1 J))
    (λ e. clash (rw e at h) refl)

read_written : (s : List ℕ) → accepted_setup s ≡ true → setup_bytes (fresh s) ≡ s
unfolding setup_bytes
read_written s h =
    let (e, w) = as_written s h in
    ap bytes_of_all w ∙ bytes_of_records (length s / 8) s (sized_length s e).0

-- Writing: the bytes have an allowed length, and are read as the records that they were made of.
bytes_sized : (f : Facility) → Regular f → sized (setup_bytes f) ≡ true
unfolding allowed_length setup_bytes setup_records kind_of most_of
bytes_sized f R =
    let b = bytes_length (setup_records f) in
    let l : length (together sections f) ≤ 144 = turn_few f 2 kinds_in_turn sections (in_turn f R) in
    let n : ℕ = length (bytes_of_all (setup_records f)) in
    and_i _ _ (eq-eqb (n % 8) 0 (omega arith)) (and_i _ _ (lt-ltb 0 n (omega arith)) (le-leb n 1160 (omega arith)))

records_back : (f : Facility) → records_in (setup_bytes f) ≡ setup_records f
unfolding setup_bytes
records_back f =
    let b = bytes_length (setup_records f) in
    let e : length (bytes_of_all (setup_records f)) / 8 ≡ length (setup_records f) = omega arith in
    ap (λ (n : ℕ). records_of n (bytes_of_all (setup_records f))) e ∙ records_of_bytes (setup_records f)

read_back : (f : Facility) → Regular f
    → read_setup (setup_bytes f) ≡ record { outcome = setup_accepted; facility = enter_each (blank all_off) (setup_records f) }
unfolding read_setup
read_back f R = rw (bytes_sized f R, records_back f) (accepted_read [] (setup_records f) (blank all_off) (all_accepted f R))

records_same : (f : Facility) → Regular f → setup_records (enter_each (blank all_off) (setup_records f)) ≡ setup_records f
unfolding setup_records
records_same f R = accepted_written (switches_record (switches_of f)) _ (all_accepted f R)

-- what the records of users and objects tell of them
pub users_told : (us : List User) → map user_entered (map user_record us) ≡ us
users_told [] = refl
users_told (u ∷ us) = ap (λ (l : List User). u ∷ l) (users_told us)

pub objects_told : (os : List Object) → All ObjectFit os → map object_entered (map object_record os) ≡ os
objects_told [] a = refl
objects_told (o ∷ os) a =
    let e = a.0.1 in
    λ i. record {
      live = sym e i;
      kind = o.kind;
      label = o.label;
      category = o.category;
      datatype = o.datatype;
      flags = o.flags;
      parent = o.parent;
    } ∷ objects_told os a.1 i

-- of a fresh facility the objects are written as they are: all live
pub fresh_written : (g : Facility) → Fresh g → written_objects g ≡ live_objects g
unfolding object_in
fresh_written g G =
    listed_same g.entered (live g) (live g) (object_of g) (written_object (objects_in g)) (λ t b. refl)
    (λ t b. ap (with_parent (object_of g t)) (parent_all (objects_in g) (object_of g t).parent g.entered
    (λ z. let p = (G.regular.parent t b z).0 in omega arith) (λ u c. G.whole u c)))

-- facilities that are written out alike have the same switches, users and live objects
same_setup : (f g : Facility) → Regular f → Fresh g → setup_records g ≡ setup_records f → SameSetup f g
unfolding setup_records
same_setup f g R Q e =
    let s : switches_record (switches_of g) ≡ switches_record (switches_of f) = cc in
    let t : together sections g ≡ together sections f = cc in
    let (us, (os, z)) = turn_same g f 2 2 kinds_in_turn sections (in_turn g Q.regular) (in_turn f R) t in
    record {
      switches = ap switches_entered s;
      users = sym (users_told (users_of g)) ∙ ap (map user_entered) us ∙ users_told (users_of f);
      objects = sym (fresh_written g Q) ∙ sym (objects_told (written_objects g) (objects_fit g Q.regular)) ∙ ap (map object_entered) os
          ∙ objects_told (written_objects f) (objects_fit f R);
    }

regular_back : (f : Facility) → Regular f → ReadBack f
regular_back f R =
    let e = read_back f R in
    record {
      allowed = rw e;
      same = same_setup f _ R (fresh_setup (setup_bytes f)) (rw e (records_same f R));
    }

pub round_trips : RoundTrips
round_trips =
    record {
      written = read_written;
      read = λ s cs. regular_back (run (fresh s) cs) (regular_run cs (fresh s) (fresh_setup s).regular);
      nineteen = nineteen;
    }

-- in a lent buffer
room : (f : Facility) (l : List ℕ) → length (setup_bytes f) ≤ length l → Lent (write_setup f l) (setup_bytes f) l
unfolding write_setup
room f l h =
    rw (le-leb (length (setup_bytes f)) (length l) h) (record {
      number = refl;
      long = refl;
      front = take-append_seam (setup_bytes f) (drop (length (setup_bytes f)) l);
      behind = drop_at (setup_bytes f) (drop (length (setup_bytes f)) l) (length (setup_bytes f)) refl;
    })

short : (f : Facility) (l : List ℕ) → length l < length (setup_bytes f) → Untouched (write_setup f l) l
unfolding write_setup
short f l h = rw (lt-leb (length (setup_bytes f)) (length l) h) (record { number = refl; long = refl; buffer = refl })

pub lent_round_trips : LentRoundTrips
lent_round_trips =
    record {
      room = room;
      short = short;
      written = λ s l a h.
          let e = read_written s a in
          subst (λ (w : List ℕ). Lent (write_setup (fresh s) l) w l) e (room (fresh s) l (subst⁻¹ (λ (w : List ℕ). length w ≤ length l) e h));
      read = λ s cs l h.
          let f = run (fresh s) cs in
          let L = room f l h in
          subst⁻¹ (λ (w : List ℕ). SameSetup f (fresh w)) (ap (λ (n : ℕ). take n (write_setup f l).buffer) L.long ∙ L.front)
          (round_trips.read s cs).same;
    }
