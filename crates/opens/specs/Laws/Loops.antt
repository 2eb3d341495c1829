-- The loops make what the definitions say.
use Rattle.std.specs.Prelude.{ℕ, suc, ◌+◌, ◌-◌, ◌*◌, min, zero, ◌<◌, ◌/◌, ◌%◌, ◌≤◌, ◌≡◌, refl, List, [], ◌∷◌, ◌++◌, ◌≢◌, cond}
use Rattle.std.specs.Prelude.{length, set, eqb, ltb, take, drop, replicate}
use Rattle.std.specs.List.{CopiedTo, SameBelow, SameFrom}
use Rattle.std.proofs.Common.{◌∙◌, ap, sym, length-set, get_or-set_other, get_or-set_same, ext_get_or, arith, add-one, eq-eqb, ne_eqb, length-take-le}
use Rattle.std.proofs.Common.{length-drop, ltb-true, ltb-false}
use Rattle.std.proofs.Math.ListN.{get_or-append}
use Rattle.std.proofs.lemmas.List.{get_or-take, get_or-append_right, get_or-drop, get_or-replicate, length-replicate}
use borrow.Rule.Slice.PartMut.{put_mid, same_len_mid}
use Rattle.std.proofs.lemmas.List.Edits.{sets}
use Rattle.labels.specs.Decisions.{at}
use Rattle.labels.proofs.Laws.Decisions.{by_eq, by_test}
use Rattle.opens.specs.Laws.Opens.{length_build, at_build}
use Rattle.opens.specs.Opens.{most_opens, build, most_objects, place, most_processes, close_process, copy_process, close_object}

-- bytes stored one after the other are one store
pub sets_append : (o : List ℕ) (i : ℕ) (xs ys : List ℕ) → sets (sets o i xs) (i + length xs) ys ≡ sets o i (xs ++ ys)
sets_append o i [] ys = let e : i + 0 ≡ i = omega arith in ap (λ (k : ℕ). sets o k ys) e
sets_append o i (x ∷ xs) ys =
    let e : i + suc (length xs) ≡ suc i + length xs = omega arith in
    ap (λ (k : ℕ). sets (sets (set o i x) (suc i) xs) k ys) e ∙ sets_append (set o i x) (suc i) xs ys

-- l with v k at `to k`, for each k below n
unfoldable pub puts : List ℕ → (ℕ → ℕ) → (ℕ → ℕ) → ℕ → List ℕ
puts l to v zero = l
puts l to v (suc n) = set (puts l to v n) (to n) (v n)

pub puts_none : (l : List ℕ) (to v : ℕ → ℕ) → l ≡ puts l to v 0
unfolding puts
puts_none l to v = refl

pub puts_more : (l m : List ℕ) (to v : ℕ → ℕ) (n : ℕ) → m ≡ puts l to v n → set m (to n) (v n) ≡ puts l to v (n + 1)
unfolding puts
puts_more l m to v n e = rw (add-one, e)

pub length_puts : (l : List ℕ) (to v : ℕ → ℕ) (n : ℕ) → length (puts l to v n) ≡ length l
unfolding puts
length_puts l to v zero = refl
length_puts l to v (suc n) = length-set (puts l to v n) (to n) (v n) ∙ length_puts l to v n

-- what no store reaches
at_puts_other : (l : List ℕ) (to v : ℕ → ℕ) (n i : ℕ) → ((k : ℕ) → k < n → i ≢ to k) → at (puts l to v n) i ≡ at l i
unfolding puts
at_puts_other l to v zero i h = refl
at_puts_other l to v (suc n) i h =
    get_or-set_other (puts l to v n) (to n) i (v n) 0 (h n (omega arith)) ∙ at_puts_other l to v n i (λ k b. h k (omega arith))

-- what the store at j left, where no later store reaches it
at_puts : (l : List ℕ) (to v : ℕ → ℕ) (n j : ℕ) → j < n → to j < length l → ((k : ℕ) → j < k → to j ≢ to k) → at (puts l to v n) (to j) ≡ v j
unfolding puts
at_puts l to v zero j h b d = absurd (omega arith)
at_puts l to v (suc n) j h b d =
    by_eq j n
    (λ e. rw e (get_or-set_same (puts l to v n) (to n) (v n) 0 (rw (length_puts l to v n) (rw e at b))))
    (λ e.
    let less : j < n = omega arith in
    get_or-set_other (puts l to v n) (to n) (to j) (v n) 0 (d n less) ∙ at_puts l to v n j less b d)

-- a store at each place makes the whole list
pub puts_whole : (l m : List ℕ) → length l ≡ length m → puts l (λ j. j) (at m) (length m) ≡ m
puts_whole l m e =
    let n = length_puts l (λ j. j) (at m) (length m) in
    ext_get_or 0 (puts l (λ j. j) (at m) (length m)) m (n ∙ e)
    (λ i b. at_puts l (λ j. j) (at m) (length m) i (omega arith) (omega arith) (λ k h. omega arith))

-- lists that agree at each place are the same
same_opens : (l m : List ℕ) (g : ℕ → ℕ) → length m ≡ length l → ((i : ℕ) → i < length l → at m i ≡ g i) → m ≡ build (length l) g
same_opens l m g e h =
    ext_get_or 0 m (build (length l) g) (e ∙ sym (length_build (length l) g))
    (λ i b. let k : i < length l = omega arith in h i k ∙ sym (at_build (length l) g i k))

-- Row p is filled by v: a store for each object, until the row or the list ends.
row_filled : (l : List ℕ) (p n : ℕ) (v : ℕ → ℕ) → ((k : ℕ) → k < most_objects → place p k < length l → k < n) → n ≤ most_objects
    → puts l (λ k. place p k) v n ≡ build (length l) (λ i. cond (eqb (i / most_objects) p) (v (i % most_objects)) (at l i))
row_filled l p n v all most =
    same_opens l _ _ (length_puts l (λ k. place p k) v n)
    (λ i b. by_eq (i / most_objects) p
    (λ q. rw (eq-eqb (i / most_objects) p q) (inside i b q))
    (λ d. rw (ne_eqb (i / most_objects) p d) (at_puts_other l (λ k. place p k) v n i (λ k e z. d (omega arith)))))
  where
    inside : (i : ℕ) → i < length l → i / most_objects ≡ p → at (puts l (λ k. place p k) v n) i ≡ v (i % most_objects)
    inside i b q =
        let w : i ≡ place p (i % most_objects) = omega arith in
        ap (λ (j : ℕ). at (puts l (λ k. place p k) v n) j) w
        ∙ at_puts l (λ k. place p k) v n (i % most_objects) (all (i % most_objects) (omega arith) (omega arith)) (omega arith) (λ k d. omega arith)

-- What stands before, in and behind a part that has been replaced.
at_before : (l ys : List ℕ) (a k i : ℕ) → a ≤ length l → i < a → at (put_mid a k l ys) i ≡ at l i
at_before l ys a k i h b =
    let n : length (take a l) ≡ a = length-take-le a l h in
    let c : i < length (take a l) = omega arith in
    get_or-append (take a l) _ 0 i c ∙ get_or-take a l i 0 b

at_within : (l ys : List ℕ) (a k i : ℕ) → a ≤ length l → length ys ≡ k → a ≤ i → i < a + k → at (put_mid a k l ys) i ≡ at ys (i - a)
at_within l ys a k i h e b c =
    let d : i - a < length ys = omega arith in
    get_or-append_right (take a l) _ a i 0 (length-take-le a l h) b ∙ get_or-append ys _ 0 (i - a) d

at_behind : (l ys : List ℕ) (a k i : ℕ) → a ≤ length l → length ys ≡ k → a + k ≤ i → at (put_mid a k l ys) i ≡ at l i
at_behind l ys a k i h e b =
    let c : a ≤ i = omega arith in
    let d : k ≤ i - a = omega arith in
    let n : a + (k + (i - a - k)) ≡ i = omega arith in
    get_or-append_right (take a l) _ a i 0 (length-take-le a l h) c
    ∙ get_or-append_right ys _ k (i - a) 0 e d
    ∙ get_or-drop k (drop a l) (i - a - k) 0
    ∙ get_or-drop a l (k + (i - a - k)) 0
    ∙ ap (at l) n

pub row_cleared : (l : List ℕ) (p n : ℕ) → ((k : ℕ) → k < most_objects → place p k < length l → k < n) → n ≤ most_objects
    → puts l (λ k. place p k) (λ k. 0) n ≡ close_process l p
unfolding close_process
row_cleared l p n all most = row_filled l p n (λ k. 0) all most

-- The same, at once: the part of the row that the list has becomes zeros.
pub row_zeroed : (l : List ℕ) (p a e : ℕ) → a ≡ min (place p 0) (length l) → e ≡ min (a + most_objects) (length l)
    → put_mid a (e - a) l (replicate (e - a) 0) ≡ close_process l p
unfolding close_process
row_zeroed l p a e s t =
    let z = length-replicate (e - a) 0 in
    let h : a ≤ length l = omega arith in
    same_opens l _ _ (same_len_mid a (e - a) l _ (z ∙ sym (length-take-le (e - a) (drop a l) (let d = length-drop a l in omega arith))))
    (λ i b. by_eq (i / most_objects) p
    (λ q. rw (eq-eqb (i / most_objects) p q) (at_within l _ a (e - a) i h z (omega arith) (omega arith) ∙ get_or-replicate (e - a) (i - a) 0 0 (omega arith)))
    (λ d. rw (ne_eqb (i / most_objects) p d) (by_test (ltb i a)
    (λ c. at_before l _ a (e - a) i h (ltb-true i a c))
    (λ c. at_behind l _ a (e - a) i h z (let g = ltb-false i a c in omega arith)))))

pub row_copied : (l : List ℕ) (p t : ℕ) → puts l (λ k. place t k) (λ k. at l (place p k)) most_objects ≡ copy_process l p t
unfolding copy_process
row_copied l p t = row_filled l t most_objects (λ k. at l (place p k)) (λ k h b. h) (omega arith)

-- The same, where both rows are there whole: what a copy of the whole row comes to.
pub whole_row_copied : (l m : List ℕ) (p t n : ℕ) → length m ≡ length l → n ≡ most_objects → CopiedTo l m (p * most_objects) (t * most_objects) n
    → SameBelow l m (t * most_objects) → SameFrom l m (t * most_objects + n) → m ≡ copy_process l p t
unfolding copy_process
whole_row_copied l m p t n e z copied below from =
    same_opens l m _ e
    (λ i b. by_eq (i / most_objects) t
    (λ q. rw (eq-eqb (i / most_objects) t q)
    (copied i 0 (omega arith) (omega arith) ∙ ap (at l) (let k : p * most_objects + (i - t * most_objects) ≡ place p (i % most_objects) = omega arith in k)))
    (λ d. rw (ne_eqb (i / most_objects) t d) (by_test (ltb i (t * most_objects))
    (λ c. below i 0 (ltb-true i (t * most_objects) c))
    (λ c. from i 0 (let g = ltb-false i (t * most_objects) c in omega arith)))))

-- Column t is cleared: a store for each row, until the next one is past the end.
pub column_cleared : (l : List ℕ) (t n : ℕ) → t < most_objects → length l ≤ place n t → puts l (λ k. place k t) (λ k. 0) n ≡ close_object l t
unfolding close_object
column_cleared l t n h past =
    same_opens l _ _ (length_puts l (λ k. place k t) (λ k. 0) n)
    (λ i b. by_eq (i % most_objects) t
    (λ q. rw (eq-eqb (i % most_objects) t q) (inside i b q))
    (λ m. rw (ne_eqb (i % most_objects) t m) (at_puts_other l (λ k. place k t) (λ k. 0) n i (λ k d z. m (omega arith)))))
  where
    inside : (i : ℕ) → i < length l → i % most_objects ≡ t → at (puts l (λ k. place k t) (λ k. 0) n) i ≡ 0
    inside i b q =
        let w : i ≡ place (i / most_objects) t = omega arith in
        ap (λ (j : ℕ). at (puts l (λ k. place k t) (λ k. 0) n) j) w
        ∙ at_puts l (λ k. place k t) (λ k. 0) n (i / most_objects) (omega arith) (omega arith) (λ k d. omega arith)

-- one turn of the copy: the place that is read was not written before, whatever the two rows are
pub copy_more : (l m : List ℕ) (p t k : ℕ) → k < most_objects → m ≡ puts l (λ j. place t j) (λ j. at l (place p j)) k
    → set m (place t k) (at m (place p k)) ≡ puts l (λ j. place t j) (λ j. at l (place p j)) (k + 1)
copy_more l m p t k h e =
    ap (λ (x : ℕ). set m (place t k) x)
    (ap (λ (q : List ℕ). at q (place p k)) e
    ∙ at_puts_other l (λ j. place t j) (λ j. at l (place p j)) k (place p k) (λ j b q. absurd (omega arith)))
    ∙ puts_more l m (λ j. place t j) (λ j. at l (place p j)) k e

-- Numbers that are none: nothing is dropped, and nobody gets a copy.
pub no_process_closed : (l : List ℕ) (p : ℕ) → length l ≡ most_opens → most_processes ≤ p → l ≡ close_process l p
unfolding close_process
no_process_closed l p e h = same_opens l l _ refl (λ i b. let n : i / most_objects ≢ p = omega arith in rw (ne_eqb (i / most_objects) p n))

pub no_object_closed : (l : List ℕ) (t : ℕ) → most_objects ≤ t → l ≡ close_object l t
unfolding close_object
no_object_closed l t h = same_opens l l _ refl (λ i b. let n : i % most_objects ≢ t = omega arith in rw (ne_eqb (i % most_objects) t n))

pub no_process_copied : (l : List ℕ) (p t : ℕ) → length l ≡ most_opens → most_processes ≤ t → l ≡ copy_process l p t
unfolding copy_process
no_process_copied l p t e h = same_opens l l _ refl (λ i b. let n : i / most_objects ≢ t = omega arith in rw (ne_eqb (i / most_objects) t n))

-- as many opens as before
pub length_object_closed : (l : List ℕ) (t : ℕ) → length (close_object l t) ≡ length l
unfolding close_object
length_object_closed l t = length_build (length l) _

pub length_process_closed : (l : List ℕ) (p : ℕ) → length (close_process l p) ≡ length l
unfolding close_process
length_process_closed l p = length_build (length l) _

pub length_process_copied : (l : List ℕ) (p t : ℕ) → length (copy_process l p t) ≡ length l
unfolding copy_process
length_process_copied l p t = length_build (length l) _
