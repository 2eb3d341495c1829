-- Numbers of four bytes each, one behind the other.
use Prim.Native.Nat.{ℕ, zero, suc, ◌+◌, ◌*◌, ◌/◌, ◌%◌, ◌<◌}
use mathlib.Core.Path.{◌≡◌, ◌∙◌, ap, refl, sym}
use mathlib.Core.Bool.{cond}
use mathlib.Core.List.{List, ◌∷◌, []}
use mathlib.Core.Logic.{◌≢◌}
use lib.Dec.{eqb}
use lib.ListN.{length, set, length-set, get_or, take, drop}
use lib.Seq.{get_or-set_same, get_or-set_other, ext_get_or, drop-drop, sets}
use native.Mathlib.Omega.{arith}
use borrow.Author.Tests.{eq-eqb, ne_eqb}
use Rattle.labels.specs.Decisions.{at}
use Rattle.labels.proofs.Laws.Decisions.{by_eq}
use Rattle.opens.specs.Laws.Opens.{length_build, at_build}
use Rattle.state.specs.State.{most_users}
use Rattle.std.specs.Simd.{first_chunks}
use Rattle.in_place.specs.Layout.{part, word_at, words}
use Rattle.in_place.proofs.BytesOfParts.{byte_in}

-- four bytes from place i on
abbrev pub four : List ℕ → ℕ → ℕ → ℕ → ℕ → ℕ → List ℕ
four l i a b c d = set (set (set (set l i a) (i + 1) b) (i + 2) c) (i + 3) d

pub four_sets : (l : List ℕ) (i a b c d : ℕ) → sets l i (a ∷ b ∷ c ∷ d ∷ []) ≡ four l i a b c d
four_sets l i a b c d =
    let p : suc i ≡ i + 1 = omega arith in
    let q : suc (suc i) ≡ i + 2 = omega arith in
    let r : suc (suc (suc i)) ≡ i + 3 = omega arith in
    λ j. set (set (set (set l i a) (p j) b) (q j) c) (r j) d

module _ (l : List ℕ) (i a b c d : ℕ) where
  one : List ℕ
  one = set l i a

  two : List ℕ
  two = set (set l i a) (i + 1) b

  three : List ℕ
  three = set (set (set l i a) (i + 1) b) (i + 2) c

  four_other : (j : ℕ) → ((k : ℕ) → k < 4 → j ≢ i + k) → at (four l i a b c d) j ≡ at l j
  unfolding one two three
  four_other j h =
      get_or-set_other three (i + 3) j d 0 (h 3 (omega arith)) ∙ get_or-set_other two (i + 2) j c 0 (h 2 (omega arith))
      ∙ get_or-set_other one (i + 1) j b 0 (h 1 (omega arith)) ∙ get_or-set_other l i j a 0 (λ e. h 0 (omega arith) (omega arith))

  module _ (h : i + 3 < length l) where
    first : at (four l i a b c d) i ≡ a
    unfolding one two three
    first =
        get_or-set_other three (i + 3) i d 0 (λ e. omega arith) ∙ get_or-set_other two (i + 2) i c 0 (λ e. omega arith)
        ∙ get_or-set_other one (i + 1) i b 0 (λ e. omega arith) ∙ get_or-set_same l i a 0 (omega arith)

    second : at (four l i a b c d) (i + 1) ≡ b
    unfolding one two three
    second =
        let n : length one ≡ length l = length-set l i a in
        get_or-set_other three (i + 3) (i + 1) d 0 (λ e. omega arith) ∙ get_or-set_other two (i + 2) (i + 1) c 0 (λ e. omega arith)
        ∙ get_or-set_same one (i + 1) b 0 (omega arith)

    third : at (four l i a b c d) (i + 2) ≡ c
    unfolding one two three
    third =
        let n : length two ≡ length l = length-set one (i + 1) b ∙ length-set l i a in
        get_or-set_other three (i + 3) (i + 2) d 0 (λ e. omega arith) ∙ get_or-set_same two (i + 2) c 0 (omega arith)

    fourth : at (four l i a b c d) (i + 3) ≡ d
    unfolding one two three
    fourth =
        let n : length three ≡ length l = length-set two (i + 2) c ∙ length-set one (i + 1) b ∙ length-set l i a in
        get_or-set_same three (i + 3) d 0 (omega arith)

-- the words after the four bytes of one were stored
word_stored : (l : List ℕ) (u a b c d j : ℕ) → 4 * u + 3 < length l
    → word_at (four l (4 * u) a b c d) j ≡ cond (eqb j u) (a + 256 * b + 65536 * c + 16777216 * d) (word_at l j)
word_stored l u a b c d j h =
    by_eq j u
    (λ e. rw (eq-eqb j u e, e)
    (λ i. first l (4 * u) a b c d h i + 256 * second l (4 * u) a b c d h i + 65536 * third l (4 * u) a b c d h i
    + 16777216 * fourth l (4 * u) a b c d h i))
    (λ e.
    let o : (m : ℕ) → m < 4 → at (four l (4 * u) a b c d) (4 * j + m) ≡ at l (4 * j + m) =
    λ m x. four_other l (4 * u) a b c d (4 * j + m) (λ k y q. e (omega arith)) in
    let z : at (four l (4 * u) a b c d) (4 * j) ≡ at l (4 * j) = four_other l (4 * u) a b c d (4 * j) (λ k y q. e (omega arith)) in
    rw (ne_eqb j u e) (λ i. z i + 256 * o 1 (omega arith) i + 65536 * o 2 (omega arith) i + 16777216 * o 3 (omega arith) i))

pub words_length : (l : List ℕ) → length (words l) ≡ most_users
words_length l = length_build most_users (word_at l)

pub words_at : (l : List ℕ) (u : ℕ) → u < most_users → at (words l) u ≡ word_at l u
words_at l u h = at_build most_users (word_at l) u h

-- a chunk of four bytes, and the number of user u that it is
chunk_at : (k u : ℕ) (l d : List ℕ) → u < k → get_or (first_chunks 4 k l) u d ≡ part l (4 * u) 4
chunk_at zero u l d h = absurd (omega arith)
chunk_at (suc k) zero l d h = refl
chunk_at (suc k) (suc u) l d h =
    let e : 4 + 4 * u ≡ 4 * suc u = omega arith in
    chunk_at k u (drop 4 l) d (omega arith) ∙ ap (take 4) (drop-drop (4 * u) 4 l ∙ ap (λ (n : ℕ). drop n l) e)

pub chunk_read : (l b d : List ℕ) (k u n : ℕ) → u < k → u < most_users → b ≡ get_or (first_chunks 4 k l) u d
    → n ≡ at b 0 + at b 1 * 256 + at b 2 * 65536 + at b 3 * 16777216 → n ≡ at (words l) u
chunk_read l b d k u n x h e f =
    let o : (i : ℕ) → i < 4 → at b i ≡ at l (4 * u + i) =
    λ i y. ap (λ (c : List ℕ). at c i) (e ∙ chunk_at k u l d x) ∙ sym (byte_in l (4 * u) 4 i y) in
    let m : 4 * u + 0 ≡ 4 * u = omega arith in
    let z = o 0 (omega arith) ∙ ap (at l) m in
    let p = o 1 (omega arith) in
    let q = o 2 (omega arith) in
    let r = o 3 (omega arith) in
    let w : n ≡ word_at l u = omega (arith, f, z, p, q, r) in
    w ∙ sym (words_at l u h)

pub words_stored : (l : List ℕ) (u a b c d n : ℕ) → length l ≡ 4 * most_users → u < most_users → a + 256 * b + 65536 * c + 16777216 * d ≡ n
    → words (four l (4 * u) a b c d) ≡ set (words l) u n
words_stored l u a b c d n e h w =
    let m = words_length l in
    let k = length-set (words l) u n in
    ext_get_or 0 (words (four l (4 * u) a b c d)) (set (words l) u n) (words_length (four l (4 * u) a b c d) ∙ sym (k ∙ m))
    (λ j y.
    let p = words_length (four l (4 * u) a b c d) in
    let x : j < most_users = omega arith in
    words_at (four l (4 * u) a b c d) j x ∙ word_stored l u a b c d j (omega arith)
    ∙ by_eq j u
    (λ q. rw (eq-eqb j u q, q) (w ∙ sym (get_or-set_same (words l) u n 0 (omega arith))))
    (λ q. rw (ne_eqb j u q) (sym (get_or-set_other (words l) u j n 0 q ∙ words_at l j x))))

-- words of bytes tell the bytes
four_bytes : (a b c d x y z w : ℕ) → a < 256 → b < 256 → c < 256 → x < 256 → y < 256 → z < 256
    → a + 256 * b + 65536 * c + 16777216 * d ≡ x + 256 * y + 65536 * z + 16777216 * w → (a ≡ x) × (b ≡ y) × (c ≡ z) × (d ≡ w)
four_bytes a b c d x y z w ha hb hc hx hy hz e = (omega arith, omega arith, omega arith, omega arith)

pub same_words : (l r : List ℕ) → length l ≡ 4 * most_users → length r ≡ 4 * most_users → ((i : ℕ) → at l i < 256) → ((i : ℕ) → at r i < 256)
    → words l ≡ words r → l ≡ r
same_words l r m n b d e =
    ext_get_or 0 l r (m ∙ sym n)
    (λ i h.
    let u = i / 4 in
    let x : u < most_users = omega arith in
    let w : word_at l u ≡ word_at r u = sym (words_at l u x) ∙ ap (λ (q : List ℕ). at q u) e ∙ words_at r u x in
    let f = four_bytes _ _ _ _ _ _ _ _ (b (4 * u)) (b (4 * u + 1)) (b (4 * u + 2)) (d (4 * u)) (d (4 * u + 1)) (d (4 * u + 2)) w in
    by_eq (i % 4) 0 (λ q. let z : i ≡ 4 * u = omega arith in rw z f.0)
    (λ q0. by_eq (i % 4) 1 (λ q. let z : i ≡ 4 * u + 1 = omega arith in rw z f.1)
    (λ q1. by_eq (i % 4) 2 (λ q. let z : i ≡ 4 * u + 2 = omega arith in rw z f.2)
    (λ q2. let z : i ≡ 4 * u + 3 = omega arith in rw z f.3))))
