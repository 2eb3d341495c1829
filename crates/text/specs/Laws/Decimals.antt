-- Decimals: how many digits a number has at most.
use Rattle.std.specs.Prelude.{ℕ, suc, ◌^◌, zero, ◌<◌, ◌+◌, ◌%◌, ◌/◌, ◌≤◌, ◌-◌, ◌≡◌, refl, true, false, List, [], ◌∷◌, ◌++◌, ltb, length}
use Rattle.std.proofs.Common.{ap, ◌∙◌, subst, length-append, arith, lt-ltb, le-ltb}
use Rattle.std.proofs.Math.Nat.{one-le-pow, pow-suc}
use Rattle.io.specs.Digits.{hex_digit_ascii, last_digits, IsDigitCount}
use Rattle.rules.specs.Lines.{decimal_in, decimal, blank, field}
use Rattle.labels.proofs.Laws.Decisions.{by_test}

one_digit : (n : ℕ) → n < 10 → hex_digit_ascii (n % 10) ≡ 48 + n
one_digit n h =
    let e : n % 10 ≡ n = omega arith in
    let t : ltb (n % 10) 10 ≡ true = lt-ltb (n % 10) 10 (omega arith) in
    rw t (ap (λ (m : ℕ). 48 + m) e)

last_digit : (n : ℕ) → hex_digit_ascii (n % 10) ≡ 48 + n % 10
last_digit n = let t : ltb (n % 10) 10 ≡ true = lt-ltb (n % 10) 10 (omega arith) in rw t refl

-- the digits of a number in the fewest places are the decimal of the paper
fewest_in : (k most n : ℕ) → n ≤ most → n < 10 ^ suc k → (0 < k → 10 ^ k ≤ n) → last_digits 10 (suc k) n ≡ decimal_in (suc most) n
unfolding decimal_in
fewest_in zero most n h u l =
    let b : n < 10 = let e = pow-suc 10 0 in omega arith in
    rw (lt-ltb n 10 b, decimal_in) (ap (λ (d : ℕ). d ∷ []) (one_digit n b))
fewest_in (suc k) zero n h u l = let q = l (omega arith) in let p = one-le-pow (suc k) 10 (omega arith) in absurd (omega arith)
fewest_in (suc k) (suc most) n h u l =
    let q = l (omega arith) in
    let e = pow-suc 10 k in
    let p = one-le-pow k 10 (omega arith) in
    let d = pow-suc 10 (suc k) in
    let b : ltb n 10 ≡ false = le-ltb n 10 (omega arith) in
    rw (b, decimal_in) (ap (λ (x : List ℕ). x ++ (hex_digit_ascii (n % 10) ∷ [])) (fewest_in k most (n / 10) (omega arith) (omega arith) (λ z. omega arith))
    ∙ ap (λ (x : ℕ). decimal_in (suc most) (n / 10) ++ (x ∷ [])) (last_digit n))

pub fewest : (k n : ℕ) → IsDigitCount 10 1 n k → last_digits 10 k n ≡ decimal n
fewest zero n h = let q = h.0 in absurd (omega arith)
fewest (suc k) n h = fewest_in k n n (omega arith) h.1
    (λ z. let b = h.2 (omega arith) in let e : suc k - 1 ≡ k = omega arith in subst (λ (j : ℕ). 10 ^ j ≤ n) e b)

-- a number below 10 ^ k has at most k digits
digits_most : (k most n : ℕ) → n < 10 ^ suc k → length (decimal_in most n) ≤ suc k
unfolding decimal_in
digits_most k zero n h = omega arith
digits_most zero (suc most) n h =
    let e = pow-suc 10 0 in
    let b : n < 10 = omega arith in
    rw (lt-ltb n 10 b, decimal_in, length) (omega arith)
digits_most (suc k) (suc most) n h =
    by_test (ltb n 10)
    (λ t. rw (t, decimal_in, length) (omega arith))
    (λ t.
    let e = pow-suc 10 (suc k) in
    let d = digits_most k most (n / 10) (omega arith) in
    rw (t, decimal_in, length) (simp length-append (omega arith)))

pub byte_short : (n : ℕ) → n < 256 → length (field n) ≤ 4
byte_short n h =
    let d = digits_most 2 (suc n) n (let e = pow-suc 10 2 in let f = pow-suc 10 1 in let g = pow-suc 10 0 in omega arith) in
    let e = length-append (decimal n) (blank ∷ []) in
    omega arith

pub index_short : (n : ℕ) → n < 18446744073709551616 → length (field n) ≤ 21
index_short n h =
    let d = digits_most 19 (suc n) n (let g : 18446744073709551616 ≤ 10 ^ 20 = omega arith in omega arith) in
    let e = length-append (decimal n) (blank ∷ []) in
    omega arith

pub level_short : (n : ℕ) → n < 256 → length (decimal n) ≤ 3
level_short n h =
    digits_most 2 (suc n) n (let e = pow-suc 10 2 in let f = pow-suc 10 1 in let g = pow-suc 10 0 in omega arith)
