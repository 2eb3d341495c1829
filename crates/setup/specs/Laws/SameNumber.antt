-- What the reader keeps answers the questions as the records before do.
use Rattle.std.specs.Prelude.{ℕ, ◌≤◌, ◌-◌, ◌≡◌, refl, true, Bool, false, not, List, [], ◌∷◌, ◌≢◌, eqb, ltb}
use Rattle.std.proofs.Common.{◌∙◌, ap, sym, arith, eq-eqb, ne_eqb}
use Rattle.rules.specs.declared.SetupRecord.{SetupRecord}
use Rattle.rules.specs.Kinds.{count_of, kind_of, place_of, fits, room, allowed_by, allowed, parent_fits, record_number}
use Rattle.rules.proofs.Fresh.{Told}
use Rattle.state.specs.declared.Facility.{Facility}
use Rattle.state.specs.State.{object_in, one_more}
use Rattle.setup.specs.declared.Progress.{Progress}
use Rattle.labels.proofs.Laws.Decisions.{by_test, by_eq}
use Rattle.setup.specs.Progress.{count_after, fits_after, number_after, parent_fits_in, progress_after}
use Rattle.rules.proofs.Past.{InOrder, order_none, count_same, order_more}
use Rattle.labels.specs.Decisions.{◌and◌, ◌or◌, ask, at}

-- p is kept of these records
pub data Kept (p : Progress) : List SetupRecord → Type 0 where
  none : p.kind ≡ 0 → p.count ≡ 0 → Kept p []
  some : (q : SetupRecord) (past : List SetupRecord) → p.kind ≡ q.kind → p.count ≡ count_of q.kind (q ∷ past) → InOrder (q ∷ past)
      → Kept p (q ∷ past)

no_place : (kind_of 0).place ≡ 0
unfolding kind_of
no_place = refl

placed : (k : ℕ) → 1 ≤ (kind_of k).place → k ≢ 0
placed k h e = let z : (kind_of k).place ≡ 0 = ap (λ (j : ℕ). (kind_of j).place) e ∙ no_place in absurd (omega arith)

fits_same : (p : Progress) (past : List SetupRecord) (r : SetupRecord) → Kept p past → fits_after p (place_of r) ≡ fits past r
unfolding fits
fits_same p [] r (none a b) = rw (eq-eqb p.kind 0 a)
fits_same p (q ∷ past) r (some x xs a b o) = rw (a, ne_eqb q.kind 0 (placed q.kind o.0))

count_none : (k : ℕ) → 0 ≡ count_of k []
unfolding count_of
count_none k = refl

count_is : (p : Progress) (past : List SetupRecord) (r : SetupRecord) → Kept p past → fits past r ≡ true → count_after p r.kind ≡ count_of r.kind past
count_is p [] r (none a b) h =
    by_test (eqb p.kind r.kind) (λ e. rw e (b ∙ count_none r.kind)) (λ e. rw e (count_none r.kind))
count_is p (q ∷ past) r (some x xs a b o) h =
    by_eq q.kind r.kind
    (λ e. rw (a, eq-eqb q.kind r.kind e) (b ∙ ap (λ (k : ℕ). count_of k (q ∷ past)) e))
    (λ d. rw (a, ne_eqb q.kind r.kind d) (sym (order_none q past r h o d)))

ask_same : (a b : Bool) (n x y : ℕ) → a ≡ b → (b ≡ true → x ≡ y) → ask a n x ≡ ask b n y
unfolding ask
ask_same a true n x y e h = rw e (h refl)
ask_same a false n x y e h = rw e

-- a record without a parent fits, and one with a parent by its test
pub none_fits : (kinds : List ℕ) (entered : ℕ) (r : SetupRecord) → r.six ≡ 0 → true ≡ parent_fits_in kinds entered r
unfolding parent_fits_in ◌or◌
none_fits kinds entered r z = by_test (eqb r.kind 2) (λ e. rw (e, eq-eqb r.six 0 z)) (λ e. rw e)

pub parent_fits_law : (kinds : List ℕ) (entered : ℕ) (r : SetupRecord) → r.six ≢ 0
    → (not (eqb r.kind 2) or (ltb (r.six - 1) entered and eqb (at kinds (r.six - 1)) 1)) ≡ parent_fits_in kinds entered r
unfolding parent_fits_in ◌or◌
parent_fits_law kinds entered r z = by_test (eqb r.kind 2) (λ e. rw (e, ne_eqb r.six 0 z)) (λ e. rw e)

-- 19 is answered by the facility as by the records it was read from
pub parent_fit_same : (past : List SetupRecord) (f : Facility) (r : SetupRecord) → Told past f → parent_fits_in f.kinds f.entered r ≡ parent_fits past r
unfolding parent_fits_in parent_fits object_in
parent_fit_same past f r T = rw (T.directory (r.six - 1))

-- the number that the reader gives: what it keeps is p, what it has built is f
abbrev pub number_by : Progress → Facility → SetupRecord → ℕ
number_by p f r = number_after p (parent_fits_in f.kinds f.entered r) r

pub number_same : (p : Progress) (past : List SetupRecord) (f : Facility) (r : SetupRecord) → Kept p past → Told past f → number_by p f r ≡ record_number past r
unfolding number_after record_number room allowed
number_same p past f r K T =
    ask_same _ _ 15 _ _ (fits_same p past r K) (λ h. λ i.
    ask (ltb (count_is p past r K h i) (kind_of r.kind).most) 16
    (ask (allowed_by (kind_of r.kind) r) 17 (ask (parent_fit_same past f r T i) 19 0)))

-- after a record that fits and has room it is kept of one record more
counts_more : (p : Progress) (past : List SetupRecord) (r : SetupRecord) → Kept p past → fits past r ≡ true → room past r ≡ true
    → (progress_after p r.kind).count ≡ count_of r.kind (r ∷ past)
unfolding room
counts_more p past r K h m =
    ap (one_more (kind_of r.kind).most) (count_is p past r K h) ∙ rw m (sym (count_same r.kind r past refl))

pub kept_more : (p : Progress) (past : List SetupRecord) (r : SetupRecord) → Kept p past → fits past r ≡ true → room past r ≡ true
    → Kept (progress_after p r.kind) (r ∷ past)
kept_more p [] r K h m = some r [] refl (counts_more p [] r K h m) (order_more [] r h tt)
kept_more p (q ∷ past) r (some x xs a b o) h m =
    some r (q ∷ past) refl (counts_more p (q ∷ past) r (some x xs a b o) h m) (order_more (q ∷ past) r h o)
