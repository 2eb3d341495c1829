-- The constant table of class codes is document 01's four lists: what its computed test says of a request and a kind.
use Prim.Native.Nat.{ℕ, ◌≤◌, ◌<◌, ◌+◌, ◌*◌, ◌/◌, ◌%◌, ◌^◌, zero, suc}
use mathlib.Core.Path.{◌≡◌, refl, ◌∙◌, ap₂, subst⁻¹}
use mathlib.Core.Bool.{Bool, true}
use mathlib.Core.List.{List, [], ◌∷◌}
use mathlib.Core.Logic.{◌≢◌}
use lib.Dec.{leb, eqb}
use native.Mathlib.Omega.{arith}
use borrow.Author.Tests.{leb-true, ne_eqb, eqb-true}
use Rattle.rules.specs.declared.Class.TheVariants.{Absent}
use Rattle.requests.specs.ClassCodes.{digit_right, each, word_right}
use Rattle.rules.specs.Requests.{class_code, last_request, last_kind, Listed, class_among, files, directories, channels, control_data, list_of, class_of}
use Rattle.labels.specs.Decisions.{◌and◌}
use Rattle.labels.proofs.Laws.Decisions.{and_l, and_r, by_eq, by_test}

-- every request of a list is one
abbrev known : List Listed → Bool
known [] = true
known (x ∷ xs) = leb x.request last_request and known xs

not_listed : (r : ℕ) (xs : List Listed) → last_request < r → known xs ≡ true → class_among r xs ≡ Absent
unfolding class_among
not_listed r [] h k = refl
not_listed r (x ∷ xs) h k =
    let b : x.request ≤ last_request = leb-true _ _ (and_l _ _ k) in
    let n : x.request ≢ r = omega arith in
    rw (ne_eqb x.request r n) (not_listed r xs h (and_r _ _ k))

list_known : (kind : ℕ) → known (list_of kind) ≡ true
unfolding list_of files directories channels control_data ◌and◌
list_known kind =
    by_test (eqb kind 0) (λ a. rw a) (λ a.
    by_test (eqb kind 1) (λ b. rw (a, b)) (λ b.
    by_test (eqb kind 2) (λ c. rw (a, b, c)) (λ c.
    by_test (eqb kind 3) (λ d. rw (a, b, c, d)) (λ d. rw (a, b, c, d)))))

-- outside the table there is no class
pub no_request_law : (r kind : ℕ) → last_request < r → class_of r kind ≡ Absent
unfolding class_of
no_request_law r kind h = not_listed r (list_of kind) h (list_known kind)

pub no_kind : (r kind : ℕ) → last_kind < kind → class_of r kind ≡ Absent
unfolding class_of list_of class_among
no_kind r kind h =
    let a : kind ≢ 0 = omega arith in
    let b : kind ≢ 1 = omega arith in
    let c : kind ≢ 2 = omega arith in
    let d : kind ≢ 3 = omega arith in
    rw (ne_eqb kind 0 a, ne_eqb kind 1 b, ne_eqb kind 2 c, ne_eqb kind 3 d)

each_at : (f : ℕ → Bool) (n j : ℕ) → j < n → each f n ≡ true → f j ≡ true
each_at f zero j h t = absurd (omega arith)
each_at f (suc n) j h t =
    by_eq j n (λ e. subst⁻¹ (λ (m : ℕ). f m ≡ true) e (and_l _ _ t))
    (λ d. let l : j < n = omega arith in each_at f n j l (and_r _ _ t))

-- a digit of a right word is the code of its request and kind
pub coded : (r kind i w : ℕ) → i ≡ r * 4 + kind → kind < 4 → word_right (i / 16) w ≡ true → w / 2 ^ (i % 16 * 3) % 8 ≡ class_code (class_of r kind)
unfolding word_right
coded r kind i w e b t =
    let q : (i / 16 * 16 + i % 16) / 4 ≡ r = omega arith in
    let m : (i / 16 * 16 + i % 16) % 4 ≡ kind = omega arith in
    let h : i % 16 < 16 = omega arith in
    eqb-true _ _ (each_at (digit_right (i / 16) w) 16 (i % 16) h t) ∙ ap₂ (λ (x y : ℕ). class_code (class_of x y)) q m
