-- A store changes one field.
use Prim.Native.Nat.{ℕ, ◌+◌, ◌<◌, ◌≤◌, zero, suc, ◌-◌}
use mathlib.Core.Path.{◌≡◌, sym, ◌∙◌, ap, fun_ext, refl}
use mathlib.Core.List.{List, ◌++◌, append_assoc}
use mathlib.Core.Logic.{◌≢◌}
use lib.ListN.{set, length, take, drop, length-take}
use lib.Dec.{ltb}
use lib.Seq.{set_out, sets, sets-eq, drop-drop, drop-set-lt, drop-set-add, take-set-lt, take-set-le}
use native.Mathlib.Omega.{arith}
use borrow.Author.Tests.{lt-ltb, le-ltb, eq-eqb, ne_eqb, ltb-true, ltb-false}
use Rattle.in_place.specs.Stores.{store_in, store_field, padding, padding_in}
use Rattle.labels.proofs.Laws.Decisions.{by_test, by_eq}
use Rattle.in_place.specs.Layout.{part, size, offset, field_of, the_opens, the_entered}

pub store_inside : (s : List ℕ) (from n i v : ℕ) → i < n → set s (from + i) v ≡ store_in s from n i v
unfolding store_in
store_inside s from n i v h = rw (lt-ltb i n h)

pub store_past : (s : List ℕ) (from n i v : ℕ) → n ≤ i → s ≡ store_in s from n i v
unfolding store_in
store_past s from n i v h = rw (le-ltb i n h)

-- a part of the bytes after a store within it, and outside it
pub part_inside : (s : List ℕ) (from n i v : ℕ) → i < n → part (set s (from + i) v) from n ≡ set (part s from n) i v
part_inside s from n i v h = ap (take n) (drop-set-add from s i v) ∙ take-set-lt n (drop from s) i v h

pub part_outside : (s : List ℕ) (q v from n : ℕ) → ((j : ℕ) → j < n → from + j ≢ q) → part (set s q v) from n ≡ part s from n
part_outside s q v from n h =
    by_test (ltb q from)
    (λ t. ap (take n) (drop-set-lt from s q v (ltb-true q from t)))
    (λ t.
    let w = ltb-false q from t in
    let e : q ≡ from + (q - from) = omega arith in
    by_test (ltb (q - from) n)
    (λ u. absurd (h (q - from) (ltb-true (q - from) n u) (sym e)))
    (λ u.
    ap (λ (k : ℕ). take n (drop from (set s k v))) e
    ∙ ap (take n) (drop-set-add from s (q - from) v) ∙ take-set-le n (drop from s) (q - from) v (ltb-false (q - from) n u)))

-- fields stand one behind the other
apart : (j d : ℕ) → offset j + size j ≤ offset (suc j + d)
apart j zero = let e : suc j + 0 ≡ suc j = omega arith in rw e (omega arith)
apart j (suc d) = let e : suc j + suc d ≡ suc (suc j + d) = omega arith in let h = apart j d in rw e (omega arith)

pub before : (j k : ℕ) → j < k → offset j + size j ≤ offset k
before j k h = let e : suc j + (k - suc j) ≡ k = omega arith in rw e at (apart j (k - suc j))

field_at : (s : List ℕ) (k i v j : ℕ) → field_of (store_in s (offset k) (size k) i v) j ≡ store_field (field_of s) k i v j
unfolding store_in
field_at s k i v j =
    by_test (ltb i (size k))
    (λ t.
    let h = ltb-true i (size k) t in
    rw t (by_eq j k
    (λ e. rw (eq-eqb j k e, e) (part_inside s (offset k) (size k) i v h))
    (λ e. rw (ne_eqb j k e) (part_outside s (offset k + i) v (offset j) (size j)
    (λ m b z. by_test (ltb j k)
    (λ u. let w = before j k (ltb-true j k u) in absurd (omega arith))
    (λ u. let x = ltb-false j k u in let y : k < j = omega arith in let w = before k j y in absurd (omega arith)))))))
    (λ t.
    let h = ltb-false i (size k) t in
    rw t (by_eq j k
    (λ e. rw (eq-eqb j k e, e) (sym (set_out (field_of s k) i v (let a = length-take (size k) (drop (offset k) s) in omega arith))))
    (λ e. rw (ne_eqb j k e))))

-- what the code's stores make of the fields
pub stored : (s m : List ℕ) (g : ℕ → List ℕ) (k i v : ℕ) → field_of s ≡ g → m ≡ store_in s (offset k) (size k) i v → field_of m ≡ store_field g k i v
stored s m g k i v e h =
    ap (λ (x : List ℕ). field_of x) h ∙ fun_ext (λ j. field_at s k i v j) ∙ ap (λ (x : ℕ → List ℕ). store_field x k i v) e

-- a store among the marks and into the count of objects keeps the padding
pub padding_marks : (s m : List ℕ) (i v : ℕ) → m ≡ store_in s (offset the_opens) (size the_opens) i v → padding m ≡ padding s
padding_marks s m i v h = ap padding_in (stored s m (field_of s) the_opens i v refl h)

pub padding_entered : (s m : List ℕ) (i v : ℕ) → m ≡ store_in s (offset the_entered) (size the_entered) i v → padding m ≡ padding s
padding_entered s m i v h = ap padding_in (stored s m (field_of s) the_entered i v refl h)

pub padding_fields : (s m : List ℕ) (g : ℕ → List ℕ) → field_of m ≡ g → padding_in g ≡ padding s → padding m ≡ padding s
padding_fields s m g e h = ap padding_in e ∙ h

-- what comes back of bytes that are lent, as stores one after the other
pub put_back : (s l : List ℕ) (a k : ℕ) → k ≡ length l → a + k ≤ length s → take a s ++ (l ++ drop k (drop a s)) ≡ sets s a l
put_back s l a k e h =
    ap (λ (r : List ℕ). take a s ++ (l ++ r)) (drop-drop k a s ∙ ap (λ (x : ℕ). drop (a + x) s) e)
    ∙ sym (append_assoc (take a s) l (drop (a + length l) s))
    ∙ sym (sets-eq l s a (omega (arith, e, h)))
