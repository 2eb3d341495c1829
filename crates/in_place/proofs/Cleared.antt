-- Bytes that are cleared from one field to another are those fields cleared; all but the paddings cleared is the blank facility.
use Prim.Native.Nat.{ℕ, zero, suc, ◌+◌, ◌-◌, ◌<◌, ◌≤◌}
use mathlib.Core.Bool.{true, false, cond}
use mathlib.Core.Path.{◌≡◌, ◌∙◌, ap, sym, fun_ext}
use mathlib.Core.List.{List, ◌++◌}
use lib.Dec.{leb, ltb}
use lib.ListN.{length, set, length-set, length-replicate, replicate, take, drop, length-take, length-drop}
use lib.Seq.{get_or-set_same, get_or-set_other, ext_get_or, sets}
use native.Mathlib.Omega.{arith}
use borrow.Author.Tests.{le-leb, lt-leb, lt-ltb, le-ltb, ltb-true, ltb-false}
use Rattle.labels.specs.Decisions.{◌and◌, at}
use Rattle.labels.proofs.Laws.Decisions.{and_i, by_eq, by_test}
use Rattle.opens.specs.Laws.Opens.{length_build, at_build}
use Rattle.opens.specs.Opens.{build}
use Rattle.rules.proofs.Sound.{at_zeros}
use Rattle.state.specs.declared.Switches.{Switches}
use Rattle.state.specs.State.{blank}
use Rattle.in_place.specs.Layout.{part, size, offset, field_of, facility_of, facility_at, the_mac, the_fc, the_sim, the_ff, the_refusals, the_padding}
use Rattle.in_place.specs.Layout.{the_last_padding}
use Rattle.in_place.specs.Stores.{Becomes, padding_in, store_field}
use Rattle.in_place.proofs.BytesOfParts.{byte_in}
use Rattle.in_place.proofs.Stored.{before, put_back}

-- the bytes from a place to another become 0
unfoldable pub cleared : List ℕ → ℕ → ℕ → List ℕ
cleared s from to = build (length s) (λ i. cond (leb from i and ltb i to) 0 (at s i))

-- the test of a number between two
inside : (a b i : ℕ) → a ≤ i → i < b → (leb a i and ltb i b) ≡ true
inside a b i h k = and_i _ _ (le-leb a i h) (lt-ltb i b k)

below : (a b i : ℕ) → i < a → (leb a i and ltb i b) ≡ false
unfolding ◌and◌
below a b i h = rw (lt-leb a i h)

above : (a b i : ℕ) → b ≤ i → (leb a i and ltb i b) ≡ false
unfolding ◌and◌
above a b i h = by_test (leb a i) (λ t. rw (t, le-ltb i b h)) (λ t. rw t)

pub length_cleared : (s : List ℕ) (from to : ℕ) → length (cleared s from to) ≡ length s
unfolding cleared
length_cleared s from to = length_build (length s) _

at_cleared : (s : List ℕ) (from to i : ℕ) → i < length s → at (cleared s from to) i ≡ cond (leb from i and ltb i to) 0 (at s i)
unfolding cleared
at_cleared s from to i h = at_build (length s) _ i h

-- one after the other
pub cleared_none : (s : List ℕ) (from : ℕ) → s ≡ cleared s from from
cleared_none s from =
    ext_get_or 0 s (cleared s from from) (sym (length_cleared s from from))
    (λ i h.
    let e : (leb from i and ltb i from) ≡ false =
    by_test (ltb i from) (λ t. below from from i (ltb-true i from t)) (λ t. above from from i (ltb-false i from t)) in
    sym (at_cleared s from from i h ∙ rw e))

pub cleared_more : (s : List ℕ) (from i : ℕ) → from ≤ i → i < length s → set (cleared s from i) i 0 ≡ cleared s from (i + 1)
cleared_more s from i f h =
    let n = length_cleared s from i in
    ext_get_or 0 (set (cleared s from i) i 0) (cleared s from (i + 1)) (length-set (cleared s from i) i 0 ∙ n ∙ sym (length_cleared s from (i + 1)))
    (λ j b.
    let m = length-set (cleared s from i) i 0 in
    let k : j < length s = omega arith in
    by_eq j i
    (λ e. rw e (get_or-set_same (cleared s from i) i 0 0 (omega arith)
    ∙ sym (at_cleared s from (i + 1) i h ∙ rw (inside from (i + 1) i f (omega arith)))))
    (λ d. get_or-set_other (cleared s from i) i j 0 0 d ∙ at_cleared s from i j k
    ∙ by_test (ltb j i)
    (λ t. let w = ltb-true j i t in rw (t, lt-ltb j (i + 1) (omega arith)))
    (λ t. let w = ltb-false j i t in rw (t, le-ltb j (i + 1) (omega arith)))
    ∙ sym (at_cleared s from (i + 1) j k)))

cleared_on : (s : List ℕ) (from i k : ℕ) → from ≤ i → i + k ≤ length s → sets (cleared s from i) i (replicate k 0) ≡ cleared s from (i + k)
cleared_on s from i zero f h = let e : i ≡ i + 0 = omega arith in ap (cleared s from) e
cleared_on s from i (suc k) f h =
    let e : i + 1 + k ≡ i + suc k = omega arith in
    let z : suc i ≡ i + 1 = omega arith in
    ap (λ (m : List ℕ). sets m (suc i) (replicate k 0)) (cleared_more s from i f (omega arith))
    ∙ ap (λ (j : ℕ). sets (cleared s from (i + 1)) j (replicate k 0)) z ∙ cleared_on s from (i + 1) k (omega arith) (omega arith) ∙ ap (cleared s from) e

-- a part of which no byte is cleared, and one of which each is
length_part : (s : List ℕ) (x y from n : ℕ) → length (part (cleared s x y) from n) ≡ length (part s from n)
length_part s x y from n =
    let a = length-take n (drop from (cleared s x y)) in
    let b = length-take n (drop from s) in
    let c = length-drop from (cleared s x y) in
    let d = length-drop from s in
    let e = length_cleared s x y in
    omega arith

part_kept : (s : List ℕ) (x y from n : ℕ) → ((i : ℕ) → i < n → (leb x (from + i) and ltb (from + i) y) ≡ false) → part (cleared s x y) from n ≡ part s from n
part_kept s x y from n h =
    ext_get_or 0 (part (cleared s x y) from n) (part s from n) (length_part s x y from n)
    (λ i b.
    let l = length_part s x y from n in
    let a = length-take n (drop from s) in
    let d = length-drop from s in
    let m : i < n = omega arith in
    let k : from + i < length s = omega arith in
    sym (byte_in (cleared s x y) from n i m) ∙ at_cleared s x y (from + i) k ∙ rw (h i m) (byte_in s from n i m))

part_cleared : (s : List ℕ) (x y from n : ℕ) → from + n ≤ length s → ((i : ℕ) → i < n → (leb x (from + i) and ltb (from + i) y) ≡ true)
    → part (cleared s x y) from n ≡ replicate n 0
part_cleared s x y from n w h =
    let l = length_part s x y from n in
    let a = length-take n (drop from s) in
    let d = length-drop from s in
    let z : length {A = ℕ} (replicate n 0) ≡ n = length-replicate {A = ℕ} n 0 in
    ext_get_or 0 (part (cleared s x y) from n) (replicate n 0) (omega arith)
    (λ i b.
    let m : i < n = omega arith in
    let k : from + i < length s = omega arith in
    sym (byte_in (cleared s x y) from n i m) ∙ at_cleared s x y (from + i) k ∙ rw (h i m) (sym (at_zeros n i)))

-- the fields from one to another cleared
abbrev pub clear_fields : (ℕ → List ℕ) → ℕ → ℕ → ℕ → List ℕ
clear_fields g a b j = cond (leb a j and ltb j b) (replicate (size j) 0) (g j)

up_to : (a j : ℕ) → a ≤ j → offset a ≤ offset j
up_to a j h = by_eq a j (λ e. rw e (omega arith)) (λ d. let w = before a j (omega arith) in omega arith)

field_cleared : (s : List ℕ) (a b j : ℕ) → a ≤ b → offset b ≤ length s → field_of (cleared s (offset a) (offset b)) j ≡ clear_fields (field_of s) a b j
field_cleared s a b j h l =
    by_test (ltb j a)
    (λ t.
    let q = ltb-true j a t in
    let w = before j a q in
    rw (below a b j q) (part_kept s (offset a) (offset b) (offset j) (size j) (λ i k. below (offset a) (offset b) (offset j + i) (omega arith))))
    (λ t. by_test (ltb j b)
    (λ u.
    let p = ltb-false j a t in
    let q = ltb-true j b u in
    let v = up_to a j p in
    let w = before j b q in
    rw (inside a b j p q) (part_cleared s (offset a) (offset b) (offset j) (size j) (omega arith)
    (λ i k. inside (offset a) (offset b) (offset j + i) (omega arith) (omega arith))))
    (λ u.
    let q = ltb-false j b u in
    let w = up_to b j q in
    rw (above a b j q) (part_kept s (offset a) (offset b) (offset j) (size j) (λ i k. above (offset a) (offset b) (offset j + i) (omega arith)))))

-- the fields after bytes from one to another were lent and came back filled with 0
filled : (s l : List ℕ) (a k : ℕ) → a + k ≤ length s → l ≡ replicate (length (part s a k)) 0
    → take a s ++ (l ++ drop k (drop a s)) ≡ cleared s a (a + k)
filled s l a k h e =
    let x = length-take k (drop a s) in
    let y = length-drop a s in
    let n : length (part s a k) ≡ k = omega arith in
    let z : l ≡ replicate k 0 = e ∙ ap (λ (j : ℕ). replicate j 0) n in
    let w : length l ≡ k = ap length z ∙ length-replicate {A = ℕ} k 0 in
    put_back s l a k (sym w) h ∙ ap (sets s a) z ∙ ap (λ (m : List ℕ). sets m a (replicate k 0)) (cleared_none s a)
    ∙ cleared_on s a a k (omega arith) h

pub fields_filled : (s l : List ℕ) (g : ℕ → List ℕ) (a b p k : ℕ) → field_of s ≡ g → p ≡ offset a → k ≡ offset b - offset a → a ≤ b → offset b ≤ length s
    → l ≡ replicate (length (part s p k)) 0 → field_of (take p s ++ (l ++ drop k (drop p s))) ≡ clear_fields g a b
fields_filled s l g a b p k e x y h w z =
    let u = up_to a b h in
    let q : p + k ≡ offset b = omega arith in
    ap field_of (filled s l p k (omega arith) z ∙ (λ i. cleared s (x i) (q i)))
    ∙ fun_ext (λ j. field_cleared s a b j h w) ∙ ap (λ (m : ℕ → List ℕ). clear_fields m a b) e

-- all but the paddings cleared, and the switches stored
pub blank_is : (s m : List ℕ) (w : Switches)
    → field_of m ≡ store_field (store_field (store_field (store_field
    (clear_fields (clear_fields (field_of s) the_mac the_padding) the_refusals the_last_padding)
    the_mac 0 w.mac) the_fc 0 w.fc) the_sim 0 w.sim) the_ff 0 w.ff
    → Becomes s m (blank w)
unfolding facility_at blank ◌and◌ build
blank_is s m w e = (ap (λ (g : ℕ → List ℕ). facility_of g) e, ap padding_in e)
