-- Texts stored one after the other.
use Rattle.std.specs.Prelude.{ℕ, suc, ◌≤◌, ◌+◌, min, ◌<◌, ◌-◌, ◌≡◌, refl, List, [], ◌∷◌, ◌++◌, length, set, take, drop, get_or, leb}
use Rattle.std.proofs.Common.{◌∙◌, ap, sym, subst, length-append, length-take-le, take_all, drop-cons, drop-drop, append_assoc, arith, leb-true, leb-false}
use Rattle.std.proofs.lemmas.List.{take-append-drop}
use Rattle.std.proofs.lemmas.List.Edits.{sets, sets-eq}
use Rattle.std.proofs.Math.Seq.{set_out, length-sets, drop-length}
use Rattle.opens.specs.Laws.Loops.{sets_append}
use Rattle.labels.proofs.Laws.Decisions.{by_test}
use Rattle.text.specs.Stored.{Stored}
use Rattle.io.specs.Counts.{IsPrefixLen}

-- nothing is stored behind the end
pub sets_out : (o : List ℕ) (i : ℕ) (xs : List ℕ) → length o ≤ i → sets o i xs ≡ o
sets_out o i [] h = refl
sets_out o i (x ∷ xs) h =
    ap (λ (l : List ℕ). sets l (suc i) xs) (set_out o i x h) ∙ sets_out o (suc i) xs (omega arith)

-- stores one after the other are one store, also where the first is cut off
cut_append : (o : List ℕ) (i : ℕ) (xs ys : List ℕ) → sets (sets o i xs) (min (i + length xs) (length o)) ys ≡ sets o i (xs ++ ys)
cut_append o i xs ys =
    let n = length-sets o i xs in
    by_test (leb (i + length xs) (length o))
    (λ t.
    let h = leb-true (i + length xs) (length o) t in
    let e : min (i + length xs) (length o) ≡ i + length xs = omega arith in
    ap (λ (k : ℕ). sets (sets o i xs) k ys) e ∙ sets_append o i xs ys)
    (λ t.
    let h = leb-false (i + length xs) (length o) t in
    let e : min (i + length xs) (length o) ≡ length o = omega arith in
    ap (λ (k : ℕ). sets (sets o i xs) k ys) e
    ∙ sets_out (sets o i xs) (length o) ys (omega arith)
    ∙ sym (sets_out (sets o i xs) (i + length xs) ys (omega arith))
    ∙ sets_append o i xs ys)

pub then : (o l m : List ℕ) (p q r : ℕ) (xs ys : List ℕ) → Stored o p xs l q → Stored l q ys m r → Stored o p (xs ++ ys) m r
then o l m p q r xs ys a b =
    let n = ap length a.0 ∙ length-sets o p xs in
    let e = length-append xs ys in (
      b.0 ∙ ap (λ (x : List ℕ). sets x q ys) a.0 ∙ ap (λ (k : ℕ). sets (sets o p xs) k ys) a.1 ∙ cut_append o p xs ys,
      (let c = a.1 in let d = b.1 in omega arith),
    )

-- the front of a text, as many bytes of it as there is room for, stored as one part of the buffer
pub store_part : (o xs ys : List ℕ) (p n k : ℕ) → p < length o → n ≡ min (length xs) (length o - p) → k ≡ n → ys ≡ take n xs
    → Stored o p xs (take p o ++ (ys ++ drop k (drop p o))) (p + n)
store_part o xs ys p n k h e i t =
    let l : length (take n xs) ≡ n = length-take-le n xs (omega arith) in
    let part : take p o ++ (ys ++ drop k (drop p o)) ≡ sets o p (take n xs) =
    ap (λ (z : List ℕ). take p o ++ (z ++ drop k (drop p o))) t
    ∙ ap (λ (z : List ℕ). take p o ++ (take n xs ++ z))
    (drop-drop k p o ∙ ap (λ (j : ℕ). drop j o) (let q : p + k ≡ p + length (take n xs) = omega arith in q))
    ∙ sym (sets-eq (take n xs) o p (omega arith) ∙ append_assoc (take p o) (take n xs) (drop (p + length (take n xs)) o)) in
    let rest : sets o p (take n xs) ≡ sets o p xs =
    by_test (leb (length xs) n)
    (λ b. ap (sets o p) (take_all n xs (leb-true (length xs) n b)))
    (λ b.
    let d = leb-false (length xs) n b in
    let s = length-sets o p (take n xs) in
    sym (sets_out (sets o p (take n xs)) (p + length (take n xs)) (drop n xs) (omega arith))
    ∙ sets_append o p (take n xs) (drop n xs) ∙ ap (sets o p) (take-append-drop n xs)) in
    (part ∙ rest, omega arith)

-- one byte more of a text: what is left of it, stored behind, makes the whole
pub store_more : (o l xs : List ℕ) (p j : ℕ) → j < length xs → sets l (p + j) (drop j xs) ≡ sets o p xs
    → sets (set l (p + j) (get_or xs j 0)) (p + (j + 1)) (drop (j + 1) xs) ≡ sets o p xs
store_more o l xs p j h e =
    let a : p + (j + 1) ≡ suc (p + j) = omega arith in
    let b : j + 1 ≡ suc j = omega arith in
    ap (λ (k : ℕ). sets (set l (p + j) (get_or xs j 0)) k (drop (j + 1) xs)) a
    ∙ ap (λ (k : ℕ). sets (set l (p + j) (get_or xs j 0)) (suc (p + j)) (drop k xs)) b
    ∙ sym (ap (λ (q : List ℕ). sets l (p + j) q) (drop-cons xs j 0 h))
    ∙ e

-- the end: nothing is left, or no room
pub store_done : (o l xs : List ℕ) (p j : ℕ) → p < length o → j ≡ min (length o - p) (length xs) → length l ≡ length o
    → sets l (p + j) (drop j xs) ≡ sets o p xs
    → Stored o p xs l (p + j)
store_done o l xs p j b h n e =
    let q : p + j ≡ min (p + length xs) (length o) = omega arith in
    by_test (leb (length xs) j)
    (λ t.
    let d = leb-true (length xs) j t in
    let k : j ≡ length xs = omega arith in
    (sym (ap (λ (r : List ℕ). sets l (p + j) r) (ap (λ (i : ℕ). drop i xs) k ∙ drop-length xs)) ∙ e, q))
    (λ t.
    let d = leb-false (length xs) j t in
    (sym (sets_out l (p + j) (drop j xs) (omega arith)) ∙ e, q))

pub store_none : (o xs : List ℕ) (p : ℕ) → length o ≤ p → Stored o p xs o (length o)
store_none o xs p h = (sym (sets_out o p xs h), let q : length o ≡ min (p + length xs) (length o) = omega arith in q)

-- no text: the buffer stays, and so does a place within it
pub store_empty : (o : List ℕ) (p q : ℕ) → q ≡ min p (length o) → Stored o p [] o q
store_empty o p q e = (refl, let h : q ≡ min (p + 0) (length o) = omega arith in h)

-- the same text, said in another way
pub as_text : (o m xs ys : List ℕ) (p q : ℕ) → xs ≡ ys → Stored o p xs m q → Stored o p ys m q
as_text o m xs ys p q e s = subst (λ (t : List ℕ). Stored o p t m q) e s

-- the place behind a store counts bytes of the buffer
pub counts : (o m xs : List ℕ) (p q : ℕ) → Stored o p xs m q → IsPrefixLen q m
counts o m xs p q s =
    let n = ap length s.0 ∙ length-sets o p xs in
    let e = s.1 in
    let b : q ≤ length m = omega arith in
    (b, sym (length-take-le q m b))
