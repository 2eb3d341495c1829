-- Where marks stand, and what is open after marks are added, copied or dropped.
use Rattle.std.specs.Prelude.{ℕ, zero, suc, ◌<◌, ◌%◌, ◌/◌, ◌≤◌, ◌+◌, ◌≡◌, refl, List, Bool, true, false, cond, length, ltb, eqb}
use Rattle.std.proofs.Common.{ap, arith, lt-ltb, le-ltb}
use Rattle.opens.specs.Opens.{build, close_object, close_process, copy_process, most_processes, most_objects, most_opens, place, mark_place, reading}
use Rattle.opens.specs.Opens.{writing, add_modes}
use Rattle.labels.specs.Decisions.{at, ◌or◌}
use Rattle.labels.proofs.Laws.Decisions.{by_test}

-- lists by a rule
pub length_build : (n : ℕ) (g : ℕ → ℕ) → length (build n g) ≡ n
unfolding build
length_build zero g = refl
length_build (suc n) g = ap suc (length_build n (λ i. g (suc i)))

pub at_build : (n : ℕ) (g : ℕ → ℕ) (i : ℕ) → i < n → at (build n g) i ≡ g i
unfolding build
at_build zero g i h = absurd (omega arith)
at_build (suc n) g zero h = refl
at_build (suc n) g (suc i) h = at_build n (λ j. g (suc j)) i (omega arith)

-- places of opens
pub place_below : (p t : ℕ) → p < most_processes → t < most_objects → place p t < most_opens
place_below p t h k = omega arith

pub place_object : (p t : ℕ) → t < most_objects → place p t % most_objects ≡ t
place_object p t k = omega arith

pub place_process : (p t : ℕ) → t < most_objects → place p t / most_objects ≡ p
place_process p t k = omega arith

pub mark_place_law : (p t : ℕ) → t < most_objects → mark_place p t ≡ place p t
unfolding mark_place
mark_place_law p t h = rw (lt-ltb t most_objects h)

-- a number that is none has its place past the end
pub no_object_place : (p t : ℕ) → most_objects ≤ t → mark_place p t ≡ most_opens
unfolding mark_place
no_object_place p t h = rw (le-ltb t most_objects h)

pub no_process_place : (p t : ℕ) → most_processes ≤ p → most_opens ≤ mark_place p t
unfolding mark_place
no_process_place p t h = by_test (ltb t most_objects) (λ e. rw e (omega arith)) (λ e. rw e (omega arith))

-- the two marks of an open
read_bit : (a b : Bool) → reading (cond a 1 0 + cond b 2 0) ≡ a
unfolding reading
read_bit true true = refl
read_bit true false = refl
read_bit false true = refl
read_bit false false = refl

write_bit : (a b : Bool) → writing (cond a 1 0 + cond b 2 0) ≡ b
unfolding writing
write_bit true true = refl
write_bit true false = refl
write_bit false true = refl
write_bit false false = refl

pub reading_add : (v m : ℕ) → reading (add_modes v m) ≡ (reading v or reading m)
unfolding add_modes
reading_add v m = read_bit (reading v or reading m) (writing v or writing m)

pub writing_add : (v m : ℕ) → writing (add_modes v m) ≡ (writing v or writing m)
unfolding add_modes
writing_add v m = write_bit (reading v or reading m) (writing v or writing m)

-- What is open after opens are dropped or copied.
below : (l : List ℕ) (p t : ℕ) → length l ≡ most_opens → p < most_processes → t < most_objects → place p t < length l
below l p t n h k = rw n (place_below p t h k)

-- "clone copies .. opens": process t has what p has, all others keep theirs
pub copied_opens : (l : List ℕ) (p t q u : ℕ) → length l ≡ most_opens → q < most_processes → u < most_objects
    → at (copy_process l p t) (place q u) ≡ cond (eqb q t) (at l (place p u)) (at l (place q u))
unfolding copy_process
copied_opens l p t q u n hq hu = rw (at_build _ _ _ (below l q u n hq hu), place_process q u hu, place_object q u hu)

-- "terminate drops them": process p has none, all others keep theirs
pub terminated_opens : (l : List ℕ) (p q u : ℕ) → length l ≡ most_opens → q < most_processes → u < most_objects
    → at (close_process l p) (place q u) ≡ cond (eqb q p) 0 (at l (place q u))
unfolding close_process
terminated_opens l p q u n hq hu = rw (at_build _ _ _ (below l q u n hq hu), place_process q u hu)

-- "delete drops .. all opens on it": no process has t open, all other opens stay
pub deleted_opens : (l : List ℕ) (t q u : ℕ) → length l ≡ most_opens → q < most_processes → u < most_objects
    → at (close_object l t) (place q u) ≡ cond (eqb u t) 0 (at l (place q u))
unfolding close_object
deleted_opens l t q u n hq hu = rw (at_build _ _ _ (below l q u n hq hu), place_object q u hu)
