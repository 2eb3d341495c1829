-- The front of a buffer: the bytes that are kept there.
use Prim.Native.Nat.{ℕ, ◌≤◌, min}
use mathlib.Core.Bool.{Bool, true, false, cond}
use mathlib.Core.Path.{◌≡◌, ap, ◌∙◌, sym}
use mathlib.Core.List.{List, [], ◌++◌}
use lib.Dec.{ltb}
use lib.ListN.{length, take, drop, length-take, length-drop, length-append}
use Rattle.std.proofs.lemmas.List.{take_min}
use lib.Seq.{length-take-le, take-append-le, take_all}
use native.Mathlib.Omega.{arith}
use borrow.Author.Tests.{le-ltb}
use Rattle.console.specs.declared.Kept.{Kept}
use Rattle.console.specs.Files.{kept_bytes, kept_in}

-- in a buffer with room for a call all are kept
pub all_in : (k : Kept) (l : List ℕ) → 4 ≤ length l → kept_in k l ≡ kept_bytes k
all_in k l h = rw (le-ltb (length l) 4 h)

pub kept_most : (k : Kept) (l : List ℕ) → length (kept_in k l) ≤ 3
unfolding kept_bytes
kept_most k l = most (ltb (length l) 4)
  where
    most : (b : Bool) → length (cond b [] (take k.count (take 3 k.bytes))) ≤ 3
    most true = omega arith
    most false = simp length-take (omega arith)

-- three bytes that are stored in front, or as many of them as are kept
stored : (k : Kept) (r : List ℕ) → length k.bytes ≡ 3 → take (min k.count 3) (k.bytes ++ r) ≡ kept_bytes k
unfolding kept_bytes
stored k r h =
    take-append-le (min k.count 3) k.bytes r (omega arith) ∙ ap (λ (n : ℕ). take (min k.count n) k.bytes) (sym h) ∙ take_min k.count k.bytes
    ∙ sym (ap (take k.count) (take_all 3 k.bytes (omega arith)))

pub kept_stored : (l x : List ℕ) (k : Kept) (n : ℕ) → n ≡ min k.count 3 → length k.bytes ≡ 3 → x ≡ k.bytes → 4 ≤ length l
    → let m = x ++ drop 3 l in (n ≡ length (kept_in k m)) × (take n m ≡ kept_in k m)
kept_stored l x k n e t b h =
    let m = x ++ drop 3 l in
    let j = ap length b in
    let d : 4 ≤ length m = simp (length-append, length-drop) (omega arith) in
    let i = all_in k m d in
    let s : take n m ≡ kept_in k m = ap (λ (y : ℕ). take y m) e ∙ ap (λ (y : List ℕ). take (min k.count 3) (y ++ drop 3 l)) b ∙ stored k (drop 3 l) t ∙ sym i in
    let c = length-take-le n m (omega arith) in
    (sym c ∙ ap length s, s)
