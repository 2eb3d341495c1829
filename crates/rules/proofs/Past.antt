-- The records before a record: how many are of a kind, and what their places tell.
use Rattle.std.specs.Prelude.{ℕ, suc, ◌+◌, ◌≤◌, ◌<◌, ◌≡◌, refl, ◌≢◌, true, List, [], ◌∷◌, ◌++◌, leb}
use Rattle.std.proofs.Common.{ap, arith, leb-true, eqb-true, eq-eqb, ne_eqb}
use Rattle.labels.proofs.Laws.Decisions.{and_l, and_r, by_eq}
use Rattle.rules.specs.Kinds.{SetupRecord, kind_of, place_of, count_of, fits}
use Rattle.rules.proofs.Records.{one_place}

-- what holds of all of a list
abbrev pub All : {A : Type 0} → (A → Type 0) → List A → Type 0
All P [] = Unit {0}
All P (x ∷ xs) = P x × All P xs

pub all_weaker : {A : Type 0} (P Q : A → Type 0) (xs : List A) → ((x : A) → P x → Q x) → All P xs → All Q xs
all_weaker P Q [] w h = tt
all_weaker P Q (x ∷ xs) w h = (w x h.0, all_weaker P Q xs w h.1)

pub all_append : {A : Type 0} (P : A → Type 0) (xs ys : List A) → All P xs → All P ys → All P (xs ++ ys)
all_append P [] ys h k = k
all_append P (x ∷ xs) ys h k = (h.0, all_append P xs ys h.1 k)

-- counts with one record more
pub count_same : (k : ℕ) (q : SetupRecord) (past : List SetupRecord) → q.kind ≡ k → count_of k (q ∷ past) ≡ count_of k past + 1
unfolding count_of
count_same k q past e = rw (eq-eqb q.kind k e)

pub count_other : (k : ℕ) (q : SetupRecord) (past : List SetupRecord) → q.kind ≢ k → count_of k (q ∷ past) ≡ count_of k past
unfolding count_of
count_other k q past d = rw (ne_eqb q.kind k d)

-- records whose places are below n: none is of a kind with place n or above
abbrev pub Under : ℕ → List SetupRecord → Type 0
Under n past = All (λ q. place_of q < n) past

pub under_weaker : (m n : ℕ) (past : List SetupRecord) → m ≤ n → Under m past → Under n past
under_weaker m n past h u = all_weaker (λ q. place_of q < m) (λ q. place_of q < n) past (λ q b. omega arith) u

pub under_none : (k : ℕ) (past : List SetupRecord) → Under (kind_of k).place past → count_of k past ≡ 0
unfolding count_of
under_none k [] h = refl
under_none k (q ∷ past) h =
    by_eq q.kind k
    (λ e.
    let b : place_of q < (kind_of k).place = h.0 in
    let z : place_of q ≡ (kind_of k).place = ap (λ (n : ℕ). (kind_of n).place) e in
    absurd (omega arith))
    (λ d. rw (ne_eqb _ _ d) (under_none k past h.1))

-- a record that fits comes first, or has at least the place of the one before it, and so of all before it
pub later_place : (q : SetupRecord) (past : List SetupRecord) (r : SetupRecord) → fits (q ∷ past) r ≡ true → leb 2 (place_of r) ≡ true
unfolding fits
later_place q past r h = and_l _ _ h

pub later_order : (q : SetupRecord) (past : List SetupRecord) (r : SetupRecord) → fits (q ∷ past) r ≡ true → place_of q ≤ place_of r
unfolding fits
later_order q past r h = leb-true _ _ (and_r _ _ h)

-- all that is past stands in order: no place is above the last record's, which is one of the table's
abbrev pub InOrder : List SetupRecord → Type 0
InOrder [] = Unit {0}
InOrder (q ∷ past) = (1 ≤ place_of q) × Under (suc (place_of q)) (q ∷ past)

pub order_under : (past : List SetupRecord) (r : SetupRecord) → fits past r ≡ true → InOrder past → Under (suc (place_of r)) past
order_under [] r h o = tt
order_under (q ∷ past) r h o =
    let b = later_order q past r h in
    under_weaker (suc (place_of q)) (suc (place_of r)) (q ∷ past) (omega arith) o.1

pub order_more : (past : List SetupRecord) (r : SetupRecord) → fits past r ≡ true → InOrder past → InOrder (r ∷ past)
unfolding fits
order_more [] r h o = let b : place_of r ≡ 1 = eqb-true _ _ h in (omega arith, (omega arith, tt))
order_more (q ∷ past) r h o =
    let b : 2 ≤ place_of r = leb-true _ _ (later_place q past r h) in
    (omega arith, (omega arith, order_under (q ∷ past) r h o))

-- of a kind other than the last record's there is none yet
pub order_none : (q : SetupRecord) (past : List SetupRecord) (r : SetupRecord) → fits (q ∷ past) r ≡ true → InOrder (q ∷ past) → q.kind ≢ r.kind
    → count_of r.kind (q ∷ past) ≡ 0
order_none q past r h o d =
    let b = later_order q past r h in
    let n : place_of q ≢ place_of r = λ e. d (one_place q.kind r.kind o.0 e) in
    under_none r.kind (q ∷ past) (under_weaker (suc (place_of q)) (place_of r) (q ∷ past) (omega arith) o.1)
