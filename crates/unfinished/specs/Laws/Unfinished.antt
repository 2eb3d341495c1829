-- What was put for a process is read for it, and what another has stays.
use Rattle.std.specs.Prelude.{ℕ, ◌+◌, ◌*◌, ◌<◌, ◌≤◌, List, ◌≢◌, ◌≡◌, set}
use Rattle.std.proofs.Common.{◌∙◌, ap, arith}
use Rattle.std.proofs.Math.ListN.{length, length-set, get_or-eq_default}
use Rattle.std.proofs.Math.Seq.{get_or-set_same, get_or-set_other, set_out}
use Rattle.labels.specs.Decisions.{at}
use Rattle.unfinished.specs.Unfinished.{Unfinished, no_unfinished, unfinished_in, with_unfinished}

pub length_with : (l : List ℕ) (p : ℕ) (u : Unfinished) → length (with_unfinished l p u) ≡ length l
unfolding with_unfinished
length_with l p u = simp length-set

-- a byte that is none of the four stays
other_byte : (l : List ℕ) (p j : ℕ) (u : Unfinished) → j ≢ 4 * p → j ≢ 4 * p + 1 → j ≢ 4 * p + 2 → j ≢ 4 * p + 3 → at (with_unfinished l p u) j ≡ at l j
unfolding with_unfinished
other_byte l p j u a b c d =
    get_or-set_other (set (set (set l (4 * p) u.request) (4 * p + 1) u.target) (4 * p + 2) u.extra) (4 * p + 3) j u.first 0 d
    ∙ get_or-set_other (set (set l (4 * p) u.request) (4 * p + 1) u.target) (4 * p + 2) j u.extra 0 c
    ∙ get_or-set_other (set l (4 * p) u.request) (4 * p + 1) j u.target 0 b ∙ get_or-set_other l (4 * p) j u.request 0 a

-- what was put for p is read for p, and what another process has stays
pub with_other : (l : List ℕ) (p q : ℕ) (u : Unfinished) → q ≢ p → unfinished_in (with_unfinished l p u) q ≡ unfinished_in l q
unfolding unfinished_in
with_other l p q u h =
    λ i. record {
      request = other_byte l p (4 * q) u (λ e. h (omega arith)) (λ e. h (omega arith)) (λ e. h (omega arith)) (λ e. h (omega arith)) i;
      target = other_byte l p (4 * q + 1) u (λ e. h (omega arith)) (λ e. h (omega arith)) (λ e. h (omega arith)) (λ e. h (omega arith)) i;
      extra = other_byte l p (4 * q + 2) u (λ e. h (omega arith)) (λ e. h (omega arith)) (λ e. h (omega arith)) (λ e. h (omega arith)) i;
      first = other_byte l p (4 * q + 3) u (λ e. h (omega arith)) (λ e. h (omega arith)) (λ e. h (omega arith)) (λ e. h (omega arith)) i;
    }

module _ (l : List ℕ) (p : ℕ) (u : Unfinished) (h : 4 * p + 3 < length l) where
  one : List ℕ
  one = set l (4 * p) u.request

  two : List ℕ
  two = set (set l (4 * p) u.request) (4 * p + 1) u.target

  three : List ℕ
  three = set (set (set l (4 * p) u.request) (4 * p + 1) u.target) (4 * p + 2) u.extra

  pub with_same : unfinished_in (with_unfinished l p u) p ≡ u
  unfolding unfinished_in with_unfinished one two three
  with_same =
      let a : length one ≡ length l = length-set l (4 * p) u.request in
      let b : length two ≡ length l = length-set one (4 * p + 1) u.target ∙ a in
      let c : length three ≡ length l = length-set two (4 * p + 2) u.extra ∙ b in
      λ i. record {
        request =
            (get_or-set_other three (4 * p + 3) (4 * p) u.first 0 (λ e. omega arith) ∙ get_or-set_other two (4 * p + 2) (4 * p) u.extra 0 (λ e. omega arith)
            ∙ get_or-set_other one (4 * p + 1) (4 * p) u.target 0 (λ e. omega arith) ∙ get_or-set_same l (4 * p) u.request 0 (omega arith)) i;
        target =
            (get_or-set_other three (4 * p + 3) (4 * p + 1) u.first 0 (λ e. omega arith)
            ∙ get_or-set_other two (4 * p + 2) (4 * p + 1) u.extra 0 (λ e. omega arith)
            ∙ get_or-set_same one (4 * p + 1) u.target 0 (omega arith)) i;
        extra =
            (get_or-set_other three (4 * p + 3) (4 * p + 2) u.first 0 (λ e. omega arith) ∙ get_or-set_same two (4 * p + 2) u.extra 0 (omega arith)) i;
        first = get_or-set_same three (4 * p + 3) u.first 0 (omega arith) i;
      }

-- a process past the end has begun nothing, and nothing is put there
pub none_in : (l : List ℕ) (p : ℕ) → length l ≤ 4 * p → unfinished_in l p ≡ no_unfinished
unfolding unfinished_in
none_in l p h =
    λ i. record {
      request = get_or-eq_default l 0 {n = 4 * p} (omega arith) i;
      target = get_or-eq_default l 0 {n = 4 * p + 1} (omega arith) i;
      extra = get_or-eq_default l 0 {n = 4 * p + 2} (omega arith) i;
      first = get_or-eq_default l 0 {n = 4 * p + 3} (omega arith) i;
    }

pub with_none : (l : List ℕ) (p : ℕ) (u : Unfinished) → length l ≤ 4 * p → with_unfinished l p u ≡ l
unfolding with_unfinished
with_none l p u h =
    ap (λ (x : List ℕ). set (set (set x (4 * p + 1) u.target) (4 * p + 2) u.extra) (4 * p + 3) u.first) (set_out l (4 * p) u.request h)
    ∙ ap (λ (x : List ℕ). set (set x (4 * p + 2) u.extra) (4 * p + 3) u.first) (set_out l (4 * p + 1) u.target (omega arith))
    ∙ ap (λ (x : List ℕ). set x (4 * p + 3) u.first) (set_out l (4 * p + 2) u.extra (omega arith))
    ∙ set_out l (4 * p + 3) u.first (omega arith)
