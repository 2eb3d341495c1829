-- A pattern is stored byte by byte: what is left of it makes what is stored the whole.
use Prim.Native.Nat.{ℕ, suc, ◌+◌, ◌≤◌, ◌<◌}
use mathlib.Core.Path.{◌≡◌, sym, ◌∙◌, ap}
use mathlib.Core.Logic.{◌≢◌}
use mathlib.Core.List.{List, [], ◌∷◌, ◌++◌, append_assoc, append-nil}
use lib.Dec.{ltb, eqb}
use lib.ListN.{length, drop, get_or}
use lib.Seq.{drop-cons, drop-length}
use native.Mathlib.Omega.{arith}
use borrow.Author.Tests.{ne_eqb}
use Rattle.labels.specs.Decisions.{◌and◌, ◌or◌, at}
use Rattle.labels.proofs.Laws.Decisions.{by_test}
use Rattle.text.specs.declared.Out.{Out}
use Rattle.text.specs.Stored.{Put}
use Rattle.text.specs.Laws.Puts.{◌▹◌, put_as}
use Rattle.words.specs.Patterns.{said, signs, filled_from}

-- a byte that is none of the signs
pub said_itself : (x n : ℕ) → x ≢ 35 → x ≢ 36 → x ≢ 37 → x ≢ 38 → x ≢ 39 → x ≢ 34 → x ≢ 33 → x ≢ 42 → x ≢ 64 → x ≢ 60 → x ≢ 62 → x ≢ 61 → x ≢ 63
    → x ∷ [] ≡ said x n
unfolding said
said_itself x n a b c d e f g h i j k l m =
    rw (
      ne_eqb x 35 a,
      ne_eqb x 36 b,
      ne_eqb x 37 c,
      ne_eqb x 38 d,
      ne_eqb x 39 e,
      ne_eqb x 34 f,
      ne_eqb x 33 g,
      ne_eqb x 42 h,
      ne_eqb x 64 i,
      ne_eqb x 60 j,
      ne_eqb x 62 k,
      ne_eqb x 61 l,
      ne_eqb x 63 m,
    )

pub at_most_one : (x : ℕ) → signs x ≤ 1
at_most_one x =
    by_test (eqb x 42)
    (λ s. rw s (omega arith))
    (λ s. by_test ((ltb 32 x and ltb x 40) or (ltb 59 x and ltb x 65)) (λ t. rw (s, t) (omega arith)) (λ t. rw (s, t) (omega arith)))

-- what is stored of the pattern xs before its byte j, with the numbers ns before the i-th: what is left makes it whole
pub record Filled (xs ns : List ℕ) (a b : Out) (i j : ℕ) : Type 0 where
  pub told : List ℕ
  pub stored : Put a told b
  pub rest : told ++ filled_from i (drop j xs) ns ≡ filled_from 0 xs ns

module _ (xs ns : List ℕ) (a : Out) where
  -- one byte more: the number n, said by byte j, and k signs passed
  pub fill_goes_on : (b d : Out) (i j n k : ℕ) → j < length xs → n ≡ at ns i → k ≡ signs (get_or xs j 0)
      → Filled xs ns a b i j → Put b (said (get_or xs j 0) n) d → Filled xs ns a d (i + k) (j + 1)
  unfolding filled_from
  fill_goes_on b d i j n k h hn hk l s =
      let x = get_or xs j 0 in
      let told = l.told in
      let e : j + 1 ≡ suc j = omega arith in
      let left = drop-cons xs j 0 h ∙ ap (λ (m : ℕ). x ∷ drop m xs) (sym e) in
      let more =
      ap (λ (m : ℕ). said x m ++ filled_from (i + k) (drop (j + 1) xs) ns) hn
      ∙ ap (λ (m : ℕ). said x (at ns i) ++ filled_from (i + m) (drop (j + 1) xs) ns) hk
      ∙ ap (λ (z : List ℕ). filled_from i z ns) (sym left) in
      record {
        told = told ++ said x n;
        stored = l.stored ▹ s;
        rest = append_assoc told (said x n) (filled_from (i + k) (drop (j + 1) xs) ns) ∙ ap (λ (z : List ℕ). told ++ z) more ∙ l.rest;
      }

  pub fill_ends : (b : Out) (i j : ℕ) → j ≡ length xs → Filled xs ns a b i j → Put a (filled_from 0 xs ns) b
  unfolding filled_from
  fill_ends b i j e l =
      let none = ap (λ (k : ℕ). drop k xs) e ∙ drop-length xs in
      let told = l.told in
      put_as (sym (append-nil told) ∙ ap (λ (z : List ℕ). told ++ filled_from i z ns) (sym none) ∙ l.rest) l.stored
