-- Numbers as sets of bits: union and intersection, each law bit by bit.
use Rattle.std.specs.Prelude.{ℕ, zero, suc, ◌+◌, ◌/◌, ◌≤◌, ◌≡◌}
use Rattle.std.proofs.Common.{sym, ◌∙◌, ap, arith}
use Rattle.std.specs.Int.Bits.{bit_or, bit_and, or_step, and_self}
use Rattle.std.proofs.lemmas.Nat.{and_assoc, le_or_l, or_of_8, or_shr}
use Rattle.std.proofs.lemmas.Nat.Bits.{bit_at_and, bit_at_or, bit_at-lt, bit_at_ones, same_from_bits, same_from_bits_below}
use Rattle.std.specs.Int.Count.{ones, ones_step}

pub or_assoc : (a b c : ℕ) → bit_or a (bit_or b c) ≡ bit_or (bit_or a b) c
or_assoc a b c = same_from_bits _ _ (λ i. omega (arith, bit_at_or a (bit_or b c) i, bit_at_or b c i, bit_at_or (bit_or a b) c i, bit_at_or a b i))

pub and_or : (a b c : ℕ) → bit_and (bit_or a b) c ≡ bit_or (bit_and a c) (bit_and b c)
and_or a b c =
    same_from_bits _ _
    (λ i. omega (arith, bit_at_and (bit_or a b) c i, bit_at_or a b i, bit_at_or (bit_and a c) (bit_and b c) i, bit_at_and a c i, bit_at_and b c i))

-- the same set twice
pub and_again : (a m : ℕ) → bit_and (bit_and a m) m ≡ bit_and a m
and_again a m = and_assoc m a m ∙ ap (bit_and a) (and_self m)

-- a union is empty only where its parts are
pub or_none_l : (a b : ℕ) → bit_or a b ≡ 0 → a ≡ 0
or_none_l a b h = omega (arith, le_or_l a b, h)

-- a part of a set adds nothing to it
pub and_absorbed : (a b : ℕ) → bit_or (bit_and a b) a ≡ a
and_absorbed a b = same_from_bits _ _ (λ i. omega (arith, bit_at_or (bit_and a b) a i, bit_at_and a b i))

pub or_and : (a b c : ℕ) → bit_or c (bit_and a b) ≡ bit_and (bit_or c a) (bit_or c b)
or_and a b c =
    same_from_bits _ _
    (λ i. omega (arith, bit_at_or c (bit_and a b) i, bit_at_and a b i, bit_at_and (bit_or c a) (bit_or c b) i, bit_at_or c a i, bit_at_or c b i))

-- a set of eight bits is within all of them
pub within_byte : (a : ℕ) → a ≤ 255 → bit_or a 255 ≡ 255
within_byte a h =
    same_from_bits_below 8 _ _ (or_of_8 a 255 (omega arith) (omega arith)) (omega arith)
    (λ i l. omega (arith, bit_at_or a 255 i, bit_at_ones 8 i l, bit_at-lt a i))

-- a set within another is no larger a number, and has no more elements; with as many it is the same set
pub within_most : (a b : ℕ) → bit_or a b ≡ b → a ≤ b
within_most a b e = omega (arith, le_or_l a b, e)

or_half : (a b : ℕ) → bit_or a b ≡ b → bit_or (a / 2) (b / 2) ≡ b / 2
or_half a b e = sym (or_shr a b 1) ∙ ap (λ (x : ℕ). x / 2) e

more_ones : (n a b : ℕ) → a ≤ n → b ≤ n → bit_or a b ≡ b → ones a ≤ ones b
more_ones zero a b h k e = let ea : a ≡ 0 = omega arith in let eb : b ≡ 0 = omega arith in rw (ea, eb) (omega arith)
more_ones (suc n) a b h k e =
    let i = more_ones n (a / 2) (b / 2) (omega arith) (omega arith) (or_half a b e) in
    omega (arith, i, e, or_step a b, ones_step a, ones_step b)

pub within_ones_most : (a b : ℕ) → bit_or a b ≡ b → ones a ≤ ones b
within_ones_most a b e = more_ones (a + b) a b (omega arith) (omega arith) e

same_ones : (n a b : ℕ) → a ≤ n → b ≤ n → bit_or a b ≡ b → ones b ≤ ones a → a ≡ b
same_ones zero a b h k e l = omega arith
same_ones (suc n) a b h k e l =
    let w = or_half a b e in
    let i = more_ones n (a / 2) (b / 2) (omega arith) (omega arith) w in
    let o = or_step a b in
    let p = ones_step a in
    let q = ones_step b in
    let s = same_ones n (a / 2) (b / 2) (omega arith) (omega arith) w (omega arith) in
    omega arith

pub within_same : (a b : ℕ) → bit_or a b ≡ b → ones b ≤ ones a → a ≡ b
within_same a b e l = same_ones (a + b) a b (omega arith) (omega arith) e l
