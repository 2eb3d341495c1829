-- The chain of parents, step by step as the loops go up it.
use Prim.Native.Nat.{ℕ, ◌+◌, ◌-◌, ◌≤◌, ◌<◌}
use mathlib.Core.Path.{◌≡◌, refl, sym, ◌∙◌, ap}
use mathlib.Core.Logic.{◌≢◌}
use mathlib.Core.Bool.{Bool, true, false, cond}
use lib.Bits.{bit_or, and_zero_l}
use lib.Dec.{eqb}
use native.Mathlib.Omega.{arith}
use borrow.Author.Tests.{lt-ltb, le-leb, ne_eqb, eq-eqb}
use Rattle.labels.specs.Decisions.{◌and◌, at, on}
use Rattle.labels.proofs.Laws.Decisions.{by_test, by_eq}
use Rattle.labels.proofs.Laws.Bits.{or_assoc, and_or, and_again}
use Rattle.state.specs.State.{Objects}
use Rattle.answers.specs.Outcomes.{no_object}
use Rattle.rules.specs.FileFlags.{add_inherited, has, without_no_delete, flags_of, parent_of, has_parent, inherits, effective, flag_source}
use Rattle.rules.proofs.Flags.{inheriting, giver_before, parent_some, effective_is, source_is}
use Rattle.flags.specs.Lists.{inherits_from}

-- whom t inherits from: none without a parent or with a later one, else by its flag and the parent's life
pub from_none : (x : Objects) (t : ℕ) → parent_of x t ≡ 0 → 0 ≡ inherits_from x t
unfolding inherits_from
from_none x t e = by_test (inherits x t) (λ i. let n = parent_some x t (inheriting x t i) in absurd (n e)) (λ i. rw i)

pub from_later : (x : Objects) (t : ℕ) → t < parent_of x t → 0 ≡ inherits_from x t
unfolding inherits_from
from_later x t l = by_test (inherits x t) (λ i. let b = giver_before x t i in absurd (omega arith)) (λ i. rw i)

pub from_parent : (x : Objects) (t : ℕ) (b : Bool) → parent_of x t ≢ 0 → parent_of x t ≤ t
    → (has add_inherited (flags_of x t) and on (at x.lives (parent_of x t - 1))) ≡ b → cond b (parent_of x t) 0 ≡ inherits_from x t
unfolding inherits_from inherits has_parent ◌and◌
from_parent x t b z l h =
    let p : 0 < parent_of x t = omega arith in
    rw (lt-ltb 0 (parent_of x t) p, le-leb (parent_of x t) t l, ← h)

pub from_below : (x : Objects) (t : ℕ) → inherits_from x t ≤ t
unfolding inherits_from
from_below x t = by_test (inherits x t) (λ i. let b = giver_before x t i in rw i (omega arith)) (λ i. rw i (omega arith))

-- what is inherited from n, as a number plus 1: the effective flags without no-delete
abbrev pub rest : Objects → ℕ → ℕ
rest x n = cond (eqb n 0) 0 (without_no_delete (effective x (n - 1)))

rest_from : (x : Objects) (t : ℕ) → cond (inherits x t) (without_no_delete (effective x (parent_of x t - 1))) 0 ≡ rest x (inherits_from x t)
unfolding inherits_from
rest_from x t =
    by_test (inherits x t)
    (λ i. rw (i, ne_eqb (parent_of x t) 0 (parent_some x t (inheriting x t i))))
    (λ i. rw i)

pub effective_rest : (x : Objects) (t : ℕ) → effective x t ≡ bit_or (flags_of x t) (rest x (inherits_from x t))
effective_rest x t = effective_is x t ∙ ap (bit_or (flags_of x t)) (rest_from x t)

rest_without : (x : Objects) (n : ℕ) → without_no_delete (rest x n) ≡ rest x n
rest_without x n =
    by_eq n 0
    (λ e. rw (eq-eqb n 0 e) (and_zero_l 251))
    (λ z. rw (ne_eqb n 0 z) (and_again (effective x (n - 1)) 251))

-- one step up
pub rest_more : (x : Objects) (v n : ℕ) → n ≢ 0
    → bit_or v (rest x n) ≡ bit_or (bit_or v (without_no_delete (flags_of x (n - 1)))) (rest x (inherits_from x (n - 1)))
rest_more x v n z =
    let r = rest x (inherits_from x (n - 1)) in
    let f = flags_of x (n - 1) in
    let e : rest x n ≡ bit_or (without_no_delete f) r
    = rw (ne_eqb n 0 z)
    (ap without_no_delete (effective_rest x (n - 1)) ∙ and_or f r 251 ∙ ap (bit_or (without_no_delete f)) (rest_without x (inherits_from x (n - 1)))) in
    ap (bit_or v) e ∙ or_assoc v (without_no_delete f) r

pub rest_some : (x : Objects) (v i : ℕ)
    → bit_or v (rest x (i + 1)) ≡ bit_or (bit_or v (without_no_delete (flags_of x i))) (rest x (inherits_from x i))
rest_some x v i =
    let e : i + 1 - 1 ≡ i = omega arith in
    rest_more x v (i + 1) (λ z. absurd (omega arith))
    ∙ ap (λ j. bit_or (bit_or v (without_no_delete (flags_of x j))) (rest x (inherits_from x j))) e

-- a flag's source: here, further up, or none
pub source_here : (x : Objects) (t m : ℕ) → has m (flags_of x t) ≡ true → t ≡ flag_source x t m
source_here x t m h = sym (source_is x t m ∙ rw h)

pub source_up : (x : Objects) (t m : ℕ) → has m (flags_of x t) ≡ false → inherits_from x t ≢ 0
    → flag_source x t m ≡ flag_source x (inherits_from x t - 1) (without_no_delete m)
unfolding inherits_from
source_up x t m h z =
    source_is x t m
    ∙ by_test (inherits x t) (λ i. rw (h, i)) (λ i. absurd (z (rw i refl)))

pub source_some : (x : Objects) (t m i : ℕ) → has m (flags_of x t) ≡ false → i + 1 ≡ inherits_from x t
    → flag_source x t m ≡ flag_source x i (without_no_delete m)
source_some x t m i h e =
    let k : inherits_from x t - 1 ≡ i = omega (arith, e) in
    source_up x t m h (λ z. absurd (omega (arith, e, z))) ∙ ap (λ j. flag_source x j (without_no_delete m)) k

pub source_none : (x : Objects) (t m : ℕ) → has m (flags_of x t) ≡ false → inherits_from x t ≡ 0 → no_object ≡ flag_source x t m
unfolding inherits_from
source_none x t m h z =
    sym (source_is x t m
    ∙ by_test (inherits x t)
    (λ i. let e : parent_of x t ≡ 0 = rw i at z in absurd (parent_some x t (inheriting x t i) e))
    (λ i. rw (h, i)))
