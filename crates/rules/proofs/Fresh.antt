-- What holds of the fresh facility of every set-up, accepted or refused, and what the records that were read tell of it.
use Rattle.std.specs.Prelude.{ℕ, ◌+◌, ◌-◌, ◌≤◌, ◌<◌, ◌≡◌, refl, ◌≢◌, Bool, false, cond, List, [], ◌∷◌, eqb, ltb}
use Rattle.std.proofs.Math.Path.{sym, subst⁻¹}
use Rattle.std.proofs.Common.{◌∙◌, ap, arith}
use Rattle.std.proofs.Math.Bool.{true}
use borrow.Author.Tests.{ltb-true, ltb-false, eqb-true, lt-ltb, le-ltb, eq-eqb, ne_eqb}
use Rattle.rules.specs.Types.{Switches, User, Object, Facility}
use Rattle.labels.specs.Decisions.{◌and◌, ◌or◌, on}
use Rattle.labels.proofs.Laws.Decisions.{and_l, and_r, or_cases, by_test, by_eq}
use Rattle.state.specs.Laws.ReadBack.{object_new, object_old, add_user_law, add_object_law}
use Rattle.state.specs.State.{most_users, switches_of, all_off, refusals_of, runs, live, opens_of, put_user, put_object, no_process, blank}
use Rattle.opens.specs.Opens.{most_objects}
use Rattle.rules.specs.Kinds.{SetupRecord, switches_kind, users_kind, objects_kind, kind_of, count_of, fits, room, allowed_by, directory_among}
use Rattle.rules.specs.Kinds.{parent_fits, record_number}
use Rattle.rules.specs.Setup.{sized, switches_entered, user_entered, object_entered, enter_record, enter_all, read_setup, switches_record, user_record}
use Rattle.rules.specs.Setup.{object_record, Reading}
use Rattle.rules.proofs.Regular.{kind_at, ParentFit, Regular, regular_user, regular_object, none_lawful}
use Rattle.rules.proofs.Sound.{at_zeros, sound_blank, blank_closed, blank_process}
use Rattle.rules.proofs.Records.{kept, kept_record, allowed_as, Accepts, accepts, first_kind, by_kind}
use Rattle.rules.proofs.Past.{count_same, count_other, later_place}

pub record Fresh (f : Facility) : Type 0 where
  pub regular : Regular f
  pub whole : (t : ℕ) → t < f.entered → live f t ≡ true
  pub stopped : (p : ℕ) → runs f p ≡ false
  pub closed : (p t : ℕ) → opens_of f p t ≡ 0
  pub refusals : (u : ℕ) → refusals_of f u ≡ 0

blank_refusals : (s : Switches) (u : ℕ) → refusals_of (blank s) u ≡ 0
unfolding blank
blank_refusals s u = at_zeros most_users u

blank_users : (s : Switches) → (blank s).users ≡ 0
unfolding blank
blank_users s = refl

blank_entered : (s : Switches) → (blank s).entered ≡ 0
unfolding blank
blank_entered s = refl

blank_switches : (s : Switches) → switches_of (blank s) ≡ s
unfolding blank
blank_switches s = refl

fresh_blank : (s : Switches) → allowed_by switches_kind (switches_record s) ≡ true → Fresh (blank s)
unfolding no_process
fresh_blank s h =
    record {
      regular = record {
        sound = sound_blank s;
        switches = subst⁻¹ (λ (x : Switches). allowed_by switches_kind (switches_record x) ≡ true) (blank_switches s) h;
        user = λ u b. absurd (omega (arith, blank_users s));
        object = λ t b. absurd (omega (arith, blank_entered s));
        parent = λ t b. absurd (omega (arith, blank_entered s));
        process = λ p. rw (blank_process s p) none_lawful;
      };
      whole = λ t b. absurd (omega (arith, blank_entered s));
      stopped = λ p. rw (blank_process s p);
      closed = λ p t. blank_closed s p t;
      refusals = blank_refusals s;
    }

pub fresh_refused : Fresh (blank all_off)
unfolding allowed_by ◌and◌
fresh_refused = fresh_blank all_off refl

fresh_user : (f : Facility) (u : User) → Fresh f → f.users < most_users → allowed_by users_kind (user_record u) ≡ true → Fresh (put_user f u)
unfolding put_user opens_of
fresh_user f u F h a =
    record {
      regular = regular_user f u F.regular h a;
      whole = F.whole;
      stopped = F.stopped;
      closed = F.closed;
      refusals = F.refusals;
    }

fresh_object : (f : Facility) (o : Object) → Fresh f → f.entered < most_objects → allowed_by objects_kind (object_record o) ≡ true
    → ParentFit f f.entered o.parent → on o.live ≡ true → Fresh (put_object f o)
unfolding put_object opens_of
fresh_object f o F h a pf v =
    record {
      regular = regular_object f o F.regular h a pf;
      whole = λ t b.
          by_eq t f.entered
          (λ e. subst⁻¹ (λ (k : ℕ). live (put_object f o) k ≡ true) e (rw (object_new f o F.regular.sound.shaped h) v))
          (λ n. rw (object_old f o t n) (F.whole t (omega arith)));
      stopped = F.stopped;
      closed = F.closed;
      refusals = F.refusals;
    }

-- whether object n is entered and is a directory
abbrev pub is_directory : Facility → ℕ → Bool
is_directory f n = ltb n f.entered and eqb (kind_at f n) 1

-- What the records that were read tell of the facility.
pub record Told (past : List SetupRecord) (f : Facility) : Type 0 where
  pub users : f.users ≡ count_of 1 past
  pub entered : f.entered ≡ count_of 2 past
  pub directory : (n : ℕ) → directory_among n past ≡ is_directory f n

abbrev pub Read : List SetupRecord → Facility → Type 0
Read past f = Fresh f × Told past f

-- what an accepted user record, and an accepted object record, gives
pub record AsUser (f : Facility) (r : SetupRecord) : Type 0 where
  pub room : f.users < most_users
  pub is : user_record (user_entered r) ≡ r
  pub allowed : allowed_by users_kind r ≡ true
  pub entered : enter_record f r ≡ put_user f (user_entered r)

pub record AsObject (f : Facility) (r : SetupRecord) : Type 0 where
  pub room : f.entered < most_objects
  pub is : object_record (object_entered r) ≡ r
  pub allowed : allowed_by objects_kind r ≡ true
  pub entered : enter_record f r ≡ put_object f (object_entered r)
  pub parent : ParentFit f f.entered r.six

module _ (past : List SetupRecord) (f : Facility) (r : SetupRecord) (T : Told past f) (A : Accepts past r) where
  pub as_user : r.kind ≡ 1 → AsUser f r
  unfolding kind_of room kept enter_record
  as_user e =
      let b : count_of 1 past < most_users = ltb-true _ _ (rw e at A.room) in
      let h : f.users < most_users = omega (arith, T.users) in
      let a : allowed_by users_kind r ≡ true = allowed_as 1 past r e A.allowed in
      record { room = h; is = kept_record 1 r e a; allowed = a; entered = rw e (add_user_law f (user_entered r) h) }

  parent_fit : r.kind ≡ 2 → ParentFit f f.entered r.six
  unfolding parent_fits
  parent_fit e z =
      let q : (eqb r.six 0 or directory_among (r.six - 1) past) ≡ true = rw (eq-eqb _ _ e) at A.parent in
      or_cases _ _ q
      (λ n. absurd (z (eqb-true _ _ n)))
      (λ d. let k = sym (T.directory (r.six - 1)) ∙ d in (ltb-true _ _ (and_l _ _ k), eqb-true _ _ (and_r _ _ k)))

  pub as_object : r.kind ≡ 2 → AsObject f r
  unfolding kind_of room kept enter_record
  as_object e =
      let b : count_of 2 past < most_objects = ltb-true _ _ (rw e at A.room) in
      let h : f.entered < most_objects = omega (arith, T.entered) in
      let a : allowed_by objects_kind r ≡ true = allowed_as 2 past r e A.allowed in
      record { room = h; is = kept_record 2 r e a; allowed = a; entered = rw e (add_object_law f (object_entered r) h); parent = parent_fit e }

-- directories among the records, with one more: a record of another kind is none, one of an object tells of the next number
among_other : (n : ℕ) (r : SetupRecord) (past : List SetupRecord) → r.kind ≢ 2 → directory_among n (r ∷ past) ≡ directory_among n past
unfolding directory_among ◌and◌
among_other n r past d = rw (ne_eqb r.kind 2 d)

pub among_new : (n : ℕ) (r : SetupRecord) (past : List SetupRecord) → r.kind ≡ 2 → count_of 2 past ≡ n → directory_among n (r ∷ past) ≡ eqb r.one 1
unfolding directory_among ◌and◌
among_new n r past e c = rw (eq-eqb r.kind 2 e, eq-eqb (count_of 2 past) n c)

pub among_old : (n : ℕ) (r : SetupRecord) (past : List SetupRecord) → count_of 2 past ≢ n → directory_among n (r ∷ past) ≡ directory_among n past
unfolding directory_among ◌and◌
among_old n r past c = by_test (eqb r.kind 2) (λ e. rw (e, ne_eqb (count_of 2 past) n c)) (λ e. rw e)

told_user : (past : List SetupRecord) (f : Facility) (r : SetupRecord) (u : User) → r.kind ≡ 1 → Told past f → Told (r ∷ past) (put_user f u)
unfolding put_user
told_user past f r u e T =
    record {
      users = ap (λ (n : ℕ). n + 1) T.users ∙ sym (count_same 1 r past e);
      entered = T.entered ∙ sym (count_other 2 r past (λ z. absurd (omega arith)));
      directory = λ n. among_other n r past (λ z. absurd (omega arith)) ∙ T.directory n;
    }

directory_told : (past : List SetupRecord) (f : Facility) (r : SetupRecord) → r.kind ≡ 2 → Fresh f → f.entered < most_objects → Told past f
    → (n : ℕ) → directory_among n (r ∷ past) ≡ (ltb n (f.entered + 1) and eqb (kind_at (put_object f (object_entered r)) n) 1)
unfolding ◌and◌
directory_told past f r e F h T n =
    by_eq n f.entered
    (λ z.
    let k : kind_at (put_object f (object_entered r)) n ≡ r.one
    = ap (kind_at (put_object f (object_entered r))) z ∙ ap (λ (x : Object). x.kind) (object_new f (object_entered r) F.regular.sound.shaped h) in
    among_new n r past e (sym T.entered ∙ sym z) ∙ rw (lt-ltb n (f.entered + 1) (omega arith), k))
    (λ z.
    let k : kind_at (put_object f (object_entered r)) n ≡ kind_at f n = ap (λ (x : Object). x.kind) (object_old f (object_entered r) n z) in
    among_old n r past (λ c. z (sym c ∙ sym T.entered)) ∙ T.directory n ∙ rw (k, more n f.entered z))
  where
    more : (n m : ℕ) → n ≢ m → ltb n (m + 1) ≡ ltb n m
    more n m z = by_test (ltb n m) (λ a. let b : n < m = ltb-true n m a in lt-ltb n (m + 1) (omega arith) ∙ sym a)
        (λ a. let b : m ≤ n = ltb-false n m a in le-ltb n (m + 1) (omega arith) ∙ sym a)

told_object : (past : List SetupRecord) (f : Facility) (r : SetupRecord) → r.kind ≡ 2 → Fresh f → f.entered < most_objects → Told past f
    → Told (r ∷ past) (put_object f (object_entered r))
unfolding put_object
told_object past f r e F h T =
    record {
      users = T.users ∙ sym (count_other 1 r past (λ z. absurd (omega arith)));
      entered = ap (λ (n : ℕ). n + 1) T.entered ∙ sym (count_same 2 r past e);
      directory = directory_told past f r e F h T;
    }

-- the switches record
pub as_switches : (f : Facility) (r : SetupRecord) → Accepts [] r
    → (enter_record f r ≡ blank (switches_entered r)) × (switches_record (switches_entered r) ≡ r) × (r.kind ≡ 3)
unfolding enter_record kind_of kept fits
as_switches f r A =
    let e : r.kind ≡ 3 = first_kind r.kind A.fits in
    (rw e, kept_record 3 r e (allowed_as 3 [] r e A.allowed), e)

blank_directory : (s : Switches) (n : ℕ) → is_directory (blank s) n ≡ false
unfolding blank ◌and◌
blank_directory s n = rw (le-ltb n 0 (omega arith))

among_none : (n : ℕ) → directory_among n [] ≡ false
unfolding directory_among
among_none n = refl

read_first : (f : Facility) (r : SetupRecord) → Accepts [] r → Read (r ∷ []) (enter_record f r)
unfolding kind_of count_of
read_first f r A =
    let (entered, is, e) = as_switches f r A in
    let a : allowed_by switches_kind r ≡ true = allowed_as 3 [] r e A.allowed in
    rw entered (
      fresh_blank _ (subst⁻¹ (λ (x : SetupRecord). allowed_by switches_kind x ≡ true) is a),
      record {
        users = blank_users _ ∙ sym (count_other 1 r [] (λ z. absurd (omega arith)));
        entered = blank_entered _ ∙ sym (count_other 2 r [] (λ z. absurd (omega arith)));
        directory = λ n. among_other n r [] (λ z. absurd (omega arith)) ∙ among_none n ∙ sym (blank_directory (switches_entered r) n);
      },
    )

-- each record that is accepted keeps all this
pub read_record : (past : List SetupRecord) (f : Facility) (r : SetupRecord) → Read past f → Accepts past r → Read (r ∷ past) (enter_record f r)
read_record [] f r D A = read_first f r A
read_record (q ∷ past) f r (F, T) A =
    by_kind r.kind (later_place q past r A.fits)
    (λ e.
    let U = as_user (q ∷ past) f r T A e in
    rw U.entered
    (fresh_user f _ F U.room (subst⁻¹ (λ (x : SetupRecord). allowed_by users_kind x ≡ true) U.is U.allowed), told_user (q ∷ past) f r _ e T))
    (λ e.
    let O = as_object (q ∷ past) f r T A e in
    rw O.entered (
      fresh_object f _ F O.room (subst⁻¹ (λ (x : SetupRecord). allowed_by objects_kind x ≡ true) O.is O.allowed) O.parent refl,
      told_object (q ∷ past) f r e F O.room T,
    ))

pub read_none : Read [] (blank all_off)
unfolding count_of
read_none =
    (fresh_refused, record { users = blank_users all_off; entered = blank_entered all_off; directory = λ n. among_none n ∙ sym (blank_directory all_off n) })

-- by whether the set-up, or the next record, is refused
by_reading : (b : Bool) (x y : Reading) → (b ≡ true → Fresh x.facility) → (b ≡ false → Fresh y.facility) → Fresh (cond b x y).facility
by_reading true x y h k = h refl
by_reading false x y h k = k refl

fresh_all : (past : List SetupRecord) (f : Facility) (rs : List SetupRecord) → Read past f → Fresh (enter_all past f rs).facility
unfolding enter_all
fresh_all past f [] D = D.0
fresh_all past f (r ∷ rs) D =
    by_reading (eqb (record_number past r) 0) _ _
    (λ e. fresh_all (r ∷ past) (enter_record f r) rs (read_record past f r D (accepts past r (eqb-true _ _ e))))
    (λ e. fresh_refused)

pub fresh_setup : (s : List ℕ) → Fresh (read_setup s).facility
unfolding read_setup
fresh_setup s = by_reading (sized s) _ _ (λ e. fresh_all [] _ _ read_none) (λ e. fresh_refused)
