-- The records of objects as they are written out: each parent among them is an earlier directory.
use Prim.Native.Nat.{ℕ, zero, suc, ◌+◌, ◌-◌, ◌<◌}
use Rattle.std.specs.Prelude.{◌≡◌, ◌≢◌, true, false, eqb}
use Rattle.std.proofs.Math.Path.{refl, sym, ap, subst, subst⁻¹}
use Rattle.std.proofs.Common.{◌∙◌}
use mathlib.Core.List.{List, [], ◌∷◌, ◌++◌, map, map-append, append-nil}
use native.Mathlib.Omega.{arith}
use borrow.Author.Tests.{eq-eqb}
use Rattle.labels.specs.Decisions.{at, on}
use Rattle.labels.proofs.Laws.Decisions.{or_l, or_r, by_test, by_eq}
use Rattle.state.specs.State.{Objects, object_in}
use Rattle.rules.specs.Kinds.{SetupRecord, count_of, directory_among, parent_fits}
use Rattle.rules.specs.Setup.{listed, object_record, new_number, new_parent, written_object}
use Rattle.rules.proofs.Past.{count_same}
use Rattle.rules.proofs.Parents.{lives, new_more, new_gone, new_below, parent_none, parent_live, parent_dead}
use Rattle.rules.proofs.Fresh.{among_new, among_old}
use Rattle.rules.proofs.Accepted.{onto, ParentsFit, parents_append}

onto_append : (past xs ys : List SetupRecord) → onto past (xs ++ ys) ≡ onto (onto past xs) ys
onto_append past [] ys = refl
onto_append past (x ∷ xs) ys = onto_append (x ∷ past) xs ys

-- the records of the live ones among the first n
unfoldable pub first_records : Objects → ℕ → List SetupRecord
first_records x n = map object_record (listed n (λ t. on (object_in x t).live) (written_object x))

one_more : (x : Objects) (n : ℕ) → lives x n → first_records x (suc n) ≡ first_records x n ++ (object_record (written_object x n) ∷ [])
unfolding first_records listed object_in
one_more x n v = rw v (map-append object_record (listed n (λ t. on (at x.lives t)) (written_object x)) (written_object x n ∷ []))

no_more : (x : Objects) (n : ℕ) → on (at x.lives n) ≡ false → first_records x (suc n) ≡ first_records x n
unfolding first_records listed object_in
no_more x n v = rw v (ap (map object_record) (append-nil (listed n (λ t. on (at x.lives t)) (written_object x))))

none_yet : (x : Objects) → first_records x 0 ≡ []
unfolding first_records listed
none_yet x = refl

-- after records of which none is an object's
module _ (x : Objects) (past : List SetupRecord) (none : count_of 2 past ≡ 0) where
  with_live : (n : ℕ) → lives x n → onto past (first_records x (suc n)) ≡ object_record (written_object x n) ∷ onto past (first_records x n)
  with_live n v = ap (onto past) (one_more x n v) ∙ onto_append past (first_records x n) _

  with_dead : (n : ℕ) → on (at x.lives n) ≡ false → onto past (first_records x (suc n)) ≡ onto past (first_records x n)
  with_dead n v = ap (onto past) (no_more x n v)

  -- there are as many as the next new number
  number_told : (n : ℕ) → count_of 2 (onto past (first_records x n)) ≡ new_number x n
  unfolding new_number
  number_told zero = ap (λ (l : List SetupRecord). count_of 2 (onto past l)) (none_yet x) ∙ none
  number_told (suc n) =
      by_test (on (at x.lives n))
      (λ v. ap (count_of 2) (with_live n v) ∙ count_same 2 _ _ refl ∙ ap (λ (k : ℕ). k + 1) (number_told n) ∙ sym (new_more x n v))
      (λ v. ap (count_of 2) (with_dead n v) ∙ number_told n ∙ sym (new_gone x n v))

  -- each live directory is among them, by its new number
  directory_told : (n t : ℕ) → t < n → lives x t → at x.kinds t ≡ 1 → directory_among (new_number x t) (onto past (first_records x n)) ≡ true
  unfolding object_in
  directory_told zero t b v k = absurd (omega arith)
  directory_told (suc n) t b v k =
      by_eq t n
      (λ e. subst (λ (m : ℕ). directory_among (new_number x t) (onto past (first_records x (suc m))) ≡ true) e
      (ap (directory_among (new_number x t)) (with_live t v) ∙ among_new (new_number x t) _ _ refl (number_told t) ∙ eq-eqb _ 1 k))
      (λ z.
      let l : t < n = omega arith in
      let s = new_below x t n l v in
      let q = number_told n in
      by_test (on (at x.lives n))
      (λ w. ap (directory_among (new_number x t)) (with_live n w) ∙ among_old (new_number x t) _ _ (λ c. absurd (omega arith)) ∙ directory_told n t l v k)
      (λ w. ap (directory_among (new_number x t)) (with_dead n w) ∙ directory_told n t l v k))

  -- so each parent fits that is an earlier directory, or deleted, or none
  parent_fits_law : (n : ℕ) → (at x.parents n ≢ 0 → (at x.parents n - 1 < n) × (at x.kinds (at x.parents n - 1) ≡ 1))
      → parent_fits (onto past (first_records x n)) (object_record (written_object x n)) ≡ true
  unfolding parent_fits object_in
  parent_fits_law n fit =
      by_eq (at x.parents n) 0
      (λ z. let e : new_parent x (at x.parents n) ≡ 0 = ap (new_parent x) z ∙ parent_none x in rw e (or_l _ _ refl))
      (λ z.
      let (b, k) = fit z in
      by_test (on (at x.lives (at x.parents n - 1)))
      (λ v.
      let w : new_number x (at x.parents n - 1) + 1 - 1 ≡ new_number x (at x.parents n - 1) = omega arith in
      rw (parent_live x _ z v, w)
      (or_r (eqb (new_number x (at x.parents n - 1) + 1) 0) _ (directory_told n _ b v k)))
      (λ v. rw (parent_dead x (at x.parents n) v) (or_l _ _ refl)))

  pub parents_fit : (n : ℕ)
      → ((t : ℕ) → t < n → at x.parents t ≢ 0 → (at x.parents t - 1 < t) × (at x.kinds (at x.parents t - 1) ≡ 1))
      → ParentsFit past (first_records x n)
  parents_fit zero fit = subst⁻¹ (ParentsFit past) (none_yet x) tt
  parents_fit (suc n) fit =
      let h = parents_fit n (λ t b. fit t (omega arith)) in
      by_test (on (at x.lives n))
      (λ v. subst⁻¹ (ParentsFit past) (one_more x n v)
      (parents_append past (first_records x n) _ h (parent_fits_law n (fit n (omega arith)), tt)))
      (λ v. subst⁻¹ (ParentsFit past) (no_more x n v) h)
