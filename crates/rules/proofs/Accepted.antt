-- Lists of records that are accepted one after the other, and what sections in the order of the table have of it: without any facility's fields.
use Rattle.answers.specs.Outcomes.{setup_accepted}
use Rattle.std.specs.Prelude.{ℕ, suc, ◌+◌, ◌≤◌, ◌<◌, ◌≡◌, refl, ◌≢◌, true, List, [], ◌∷◌, ◌++◌, eqb, length}
use Rattle.std.proofs.Common.{sym, ◌∙◌, ap, length-append, arith, eqb-true, le-leb, lt-ltb, eq-eqb, ne_eqb}
use Rattle.labels.proofs.Laws.Decisions.{and_i, clash, by_test}
use Rattle.rules.specs.Types.{Facility}
use Rattle.rules.specs.Kinds.{SetupRecord, kind_of, place_of, count_of, fits, room, allowed, parent_fits, record_number}
use Rattle.rules.specs.Setup.{enter_record, enter_all, is_accepted, together}
use Rattle.rules.proofs.Records.{Accepts, accepts, accepted_number}
use Rattle.rules.proofs.Past.{All, all_weaker, all_append, Under, under_weaker, under_none, count_same}

-- rs are accepted one after the other, after those that are past
abbrev pub AllAccepted : List SetupRecord → List SetupRecord → Type 0
AllAccepted past [] = Unit {0}
AllAccepted past (r ∷ rs) = Accepts past r × AllAccepted (r ∷ past) rs

-- what is past after xs
abbrev pub onto : List SetupRecord → List SetupRecord → List SetupRecord
onto past [] = past
onto past (x ∷ xs) = onto (x ∷ past) xs

accepted_append : (past xs ys : List SetupRecord) → AllAccepted past xs → AllAccepted (onto past xs) ys → AllAccepted past (xs ++ ys)
accepted_append past [] ys h k = k
accepted_append past (x ∷ xs) ys h k = (h.0, accepted_append (x ∷ past) xs ys h.1 k)

-- reading accepts exactly these lists, and enters each record
unfoldable pub enter_each : Facility → List SetupRecord → Facility
enter_each f [] = f
enter_each f (r ∷ rs) = enter_each (enter_record f r) rs

pub accepted_read : (past rs : List SetupRecord) (f : Facility) → AllAccepted past rs
    → enter_all past f rs ≡ record { outcome = setup_accepted; facility = enter_each f rs }
unfolding enter_all enter_each
accepted_read past [] f h = refl
accepted_read past (r ∷ rs) f h = rw (eq-eqb _ 0 (accepted_number past r h.0)) (accepted_read (r ∷ past) rs (enter_record f r) h.1)

pub read_accepted : (past rs : List SetupRecord) (f : Facility) → is_accepted (enter_all past f rs).outcome ≡ true → AllAccepted past rs
unfolding enter_all
read_accepted past [] f h = tt
read_accepted past (r ∷ rs) f h =
    by_test (eqb (record_number past r) 0)
    (λ e. (accepts past r (eqb-true _ _ e), read_accepted (r ∷ past) rs (enter_record f r) (rw e at h)))
    (λ e. clash (rw e at h) refl)

-- what is past after records
length_onto : (past xs : List SetupRecord) → length past ≤ length (onto past xs)
length_onto past [] = omega arith
length_onto past (x ∷ xs) = let h = length_onto (x ∷ past) xs in omega arith

under_onto : (n : ℕ) (past xs : List SetupRecord) → Under n past → Under n xs → Under n (onto past xs)
under_onto n past [] h k = h
under_onto n past (x ∷ xs) h k = under_onto n (x ∷ past) xs (k.0, h) k.1

-- A section: records of one kind, not too many, each allowed after whatever comes before it.
abbrev pub AlwaysAllowed : SetupRecord → Type 0
AlwaysAllowed r = (past : List SetupRecord) → allowed past r ≡ true

-- and each parent among them is an earlier directory, by the records before it
abbrev pub ParentsFit : List SetupRecord → List SetupRecord → Type 0
ParentsFit past [] = Unit {0}
ParentsFit past (r ∷ rs) = (parent_fits past r ≡ true) × ParentsFit (r ∷ past) rs

pub parents_append : (past xs ys : List SetupRecord) → ParentsFit past xs → ParentsFit (onto past xs) ys → ParentsFit past (xs ++ ys)
parents_append past [] ys h k = k
parents_append past (x ∷ xs) ys h k = (h.0, parents_append (x ∷ past) xs ys h.1 k)

-- records of other kinds have none
pub no_parents : (k : ℕ) (xs past : List SetupRecord) → k ≢ 2 → All (λ r. r.kind ≡ k) xs → ParentsFit past xs
unfolding parent_fits
no_parents k [] past d h = tt
no_parents k (x ∷ xs) past d h =
    let n : x.kind ≢ 2 = λ z. d (sym h.0 ∙ z) in
    (rw (ne_eqb x.kind 2 n) refl, no_parents k xs (x ∷ past) d h.1)

pub record Section (k : ℕ) (xs : List SetupRecord) : Type 0 where
  pub kinds : All (λ r. r.kind ≡ k) xs
  pub few : length xs ≤ (kind_of k).most
  pub lawful : All AlwaysAllowed xs
  pub parents : (past : List SetupRecord) → count_of k past ≡ 0 → ParentsFit past xs

fits_later : (past : List SetupRecord) (r : SetupRecord) → 1 ≤ length past → 2 ≤ place_of r → Under (suc (place_of r)) past → fits past r ≡ true
unfolding fits
fits_later [] r h p u = absurd (omega arith)
fits_later (q ∷ past) r h p u =
    let b : place_of q < suc (place_of r) = u.0 in
    and_i _ _ (le-leb 2 (place_of r) p) (le-leb (place_of q) (place_of r) (omega arith))

section_goes : (k : ℕ) (xs past : List SetupRecord) → 1 ≤ length past → 2 ≤ (kind_of k).place → Under (suc (kind_of k).place) past
    → All (λ r. r.kind ≡ k) xs → count_of k past + length xs ≤ (kind_of k).most → All AlwaysAllowed xs → ParentsFit past xs → AllAccepted past xs
unfolding room
section_goes k [] past l p u ks c a b = tt
section_goes k (x ∷ xs) past l p u ks c a b =
    let e : x.kind ≡ k = ks.0 in
    let ez : place_of x ≡ (kind_of k).place = ap (λ (j : ℕ). (kind_of j).place) e in
    let s = count_same k x past e in
    let A : Accepts past x = record {
      fits = fits_later past x l (omega arith) (rw ez u);
      room = rw e (lt-ltb (count_of k past) (kind_of k).most (omega arith));
      allowed = a.0 past;
      parent = b.0;
    } in
    (A, section_goes k xs (x ∷ past) (omega arith) p (omega arith, u) ks.1 (omega arith) a.1 b.1)

-- a section goes after what has earlier places, and what has later places may follow
section_follows : (k : ℕ) (xs past : List SetupRecord) → 1 ≤ length past → 2 ≤ (kind_of k).place → Under (kind_of k).place past → Section k xs
    → AllAccepted past xs × Under (suc (kind_of k).place) (onto past xs)
section_follows k xs past l p u S =
    let z = under_none k past u in
    let v = under_weaker (kind_of k).place (suc (kind_of k).place) past (omega arith) u in
    let place : (r : SetupRecord) → r.kind ≡ k → place_of r ≡ (kind_of k).place = λ r e. ap (λ (j : ℕ). (kind_of j).place) e in (
      section_goes k xs past l p v S.kinds (omega (arith, S.few)) S.lawful (S.parents past z),
      under_onto _ past xs v
          (all_weaker (λ r. r.kind ≡ k) (λ r. place_of r < suc (kind_of k).place) xs (λ r e. omega (arith, place r e)) S.kinds),
    )

-- Sections of the kinds ks, in the order of their places, from place n on.
pub data InTurn (f : Facility) : ℕ → List ℕ → List (Facility → List SetupRecord) → Type 0 where
  done : (n : ℕ) → InTurn f n [] []
  next : (n k : ℕ) (ks : List ℕ) (s : Facility → List SetupRecord) (ss : List (Facility → List SetupRecord)) → n ≤ (kind_of k).place
      → 2 ≤ (kind_of k).place → Section k (s f) → InTurn f (suc (kind_of k).place) ks ss → InTurn f n (k ∷ ks) (s ∷ ss)

pub turn_accepted : (f : Facility) (n : ℕ) (ks : List ℕ) (ss : List (Facility → List SetupRecord)) (past : List SetupRecord) → 1 ≤ length past
    → Under n past → InTurn f n ks ss → AllAccepted past (together ss f)
turn_accepted f n [] [] past l u (done m) = tt
turn_accepted f n (k ∷ ks) (s ∷ ss) past l u (next m j js t ts p two S C) =
    let (J, w) = section_follows k (s f) past l two (under_weaker n (kind_of k).place past p u) S in
    let l2 = length_onto past (s f) in
    accepted_append past (s f) (together ss f) J (turn_accepted f (suc (kind_of k).place) ks ss (onto past (s f)) (omega arith) w C)
turn_accepted f n [] (s ∷ ss) past l u x6 = elim x6 [ ]
turn_accepted f n (k ∷ ks) [] past l u x5 = elim x5 [ ]

-- how many records they are at most
unfoldable pub most_of : List ℕ → ℕ
most_of [] = 0
most_of (k ∷ ks) = (kind_of k).most + most_of ks

pub turn_few : (f : Facility) (n : ℕ) (ks : List ℕ) (ss : List (Facility → List SetupRecord)) → InTurn f n ks ss → length (together ss f) ≤ most_of ks
unfolding most_of
turn_few f n [] [] (done m) = omega arith
turn_few f n (k ∷ ks) (s ∷ ss) (next m j js t ts p two S C) =
    let h = turn_few f (suc (kind_of k).place) ks ss C in
    let a = length-append (s f) (together ss f) in
    omega (arith, S.few)
turn_few f n [] (s ∷ ss) x'' = elim x'' [ ]
turn_few f n (k ∷ ks) [] x3 = elim x3 [ ]

-- a section has all of its kind: where two facilities have the same records, they have the same sections
abbrev Apart : ℕ → List SetupRecord → Type 0
Apart k xs = All (λ r. r.kind ≢ k) xs

split_same : (k : ℕ) (xs ys zs ws : List SetupRecord) → All (λ r. r.kind ≡ k) xs → All (λ r. r.kind ≡ k) ys → Apart k zs → Apart k ws
    → xs ++ zs ≡ ys ++ ws → (xs ≡ ys) × (zs ≡ ws)
split_same k [] [] zs ws a b c d e = (refl, e)
split_same k [] (y ∷ ys) [] ws a b c d e = let z : ◌≡◌ {A = ℕ} 0 1 = cc in absurd (omega arith)
split_same k [] (y ∷ ys) (z ∷ zs) ws a b c d e = let q : z ≡ y = cc in absurd (c.0 (ap (λ (r : SetupRecord). r.kind) q ∙ b.0))
split_same k (x ∷ xs) [] zs [] a b c d e = let z : ◌≡◌ {A = ℕ} 0 1 = cc in absurd (omega arith)
split_same k (x ∷ xs) [] zs (w ∷ ws) a b c d e = let q : x ≡ w = cc in absurd (d.0 (sym (ap (λ (r : SetupRecord). r.kind) q) ∙ a.0))
split_same k (x ∷ xs) (y ∷ ys) zs ws a b c d e =
    let q : x ≡ y = cc in
    let t : xs ++ zs ≡ ys ++ ws = cc in
    let (p, r) = split_same k xs ys zs ws a.1 b.1 c d t in
    ((λ i. q i ∷ p i), r)

turn_apart : (f : Facility) (n : ℕ) (ks : List ℕ) (ss : List (Facility → List SetupRecord)) (k : ℕ) → (kind_of k).place < n → InTurn f n ks ss
    → Apart k (together ss f)
turn_apart f n [] [] k b (done m) = tt
turn_apart f n (h ∷ ks) (s ∷ ss) k b (next m j js t ts p two S C) =
    all_append (λ r. r.kind ≢ k) (s f) (together ss f)
    (all_weaker (λ r. r.kind ≡ h) (λ r. r.kind ≢ k) (s f)
    (λ r e z. let y : (kind_of h).place ≡ (kind_of k).place = ap (λ (i : ℕ). (kind_of i).place) (sym e ∙ z) in absurd (omega arith)) S.kinds)
    (turn_apart f (suc (kind_of h).place) ks ss k (omega arith) C)
turn_apart f n [] (s ∷ ss) k b x4 = elim x4 [ ]
turn_apart f n (h ∷ ks) [] k b x4 = elim x4 [ ]

abbrev pub SameIn : List (Facility → List SetupRecord) → Facility → Facility → Type 0
SameIn [] f g = Unit {0}
SameIn (s ∷ ss) f g = (s f ≡ s g) × SameIn ss f g

pub turn_same : (f g : Facility) (n m : ℕ) (ks : List ℕ) (ss : List (Facility → List SetupRecord)) → InTurn f n ks ss → InTurn g m ks ss
    → together ss f ≡ together ss g → SameIn ss f g
turn_same f g n m [] [] (done a) (done b) e = tt
turn_same f g n m (k ∷ ks) (s ∷ ss) (next a1 a2 a3 a4 a5 a6 a7 S C) (next b1 b2 b3 b4 b5 b6 b7 T D) e =
    let (p, q) = split_same k (s f) (s g) (together ss f) (together ss g) S.kinds T.kinds
    (turn_apart f _ ks ss k (omega arith) C) (turn_apart g _ ks ss k (omega arith) D) e in
    (p, turn_same f g (suc (kind_of k).place) (suc (kind_of k).place) ks ss C D q)
turn_same f g n m [] (s ∷ ss) x6 _ e = elim x6 [ ]
turn_same f g n m (k ∷ ks) [] x6 _ e = elim x6 [ ]
