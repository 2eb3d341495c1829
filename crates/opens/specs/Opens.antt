-- "State": the opens, two bits in one byte for each process and object.
pub use Rattle.opens.specs.declared.OpenChange.{OpenChange}
pub use Rattle.opens.specs.declared.OpenChange.TheVariants.{Keep, Add, Close, CloseAll}
use Rattle.std.specs.Prelude.{ℕ, ◌+◌, ◌*◌, ◌%◌, ◌/◌, zero, suc, cond, Bool, List, [], ◌∷◌, ltb, eqb, length}
use Rattle.labels.specs.Decisions.{◌or◌, at}

-- processes are 0..31, object numbers 0..127
abbrev pub most_processes : ℕ
most_processes = 32

abbrev pub most_objects : ℕ
most_objects = 128

abbrev pub most_opens : ℕ
most_opens = 4096

-- the marks of process p on object t
abbrev pub place : ℕ → ℕ → ℕ
place p t = p * most_objects + t

-- where the marks of process p on object t stand; past the end of the array where p or t is no such number
unfoldable pub mark_place : ℕ → ℕ → ℕ
mark_place p t = cond (ltb t most_objects) (place p t) most_opens

-- open for reading, open for writing
unfoldable pub reading : ℕ → Bool
reading v = eqb (v % 2) 1

unfoldable pub writing : ℕ → Bool
writing v = eqb (v / 2 % 2) 1

-- the marks v with those of m added
unfoldable pub add_modes : ℕ → ℕ → ℕ
add_modes v m = cond (reading v or reading m) 1 0 + cond (writing v or writing m) 2 0

-- the marks v of a pair after a change of the opens: opens add their modes, close drops both, delete drops all
abbrev pub marks_after : OpenChange → ℕ → ℕ
marks_after Keep v = v
marks_after (Add m) v = add_modes v m
marks_after Close v = 0
marks_after CloseAll v = 0

-- the list of n elements by a rule
unfoldable pub build : ℕ → (ℕ → ℕ) → List ℕ
build zero g = []
build (suc n) g = g zero ∷ build n (λ i. g (suc i))

-- the opens after those on object t are dropped, after those of process p are, and after process t gets a copy of p's
unfoldable pub close_object : List ℕ → ℕ → List ℕ
close_object l t = build (length l) (λ i. cond (eqb (i % most_objects) t) 0 (at l i))

unfoldable pub close_process : List ℕ → ℕ → List ℕ
close_process l p = build (length l) (λ i. cond (eqb (i / most_objects) p) 0 (at l i))

unfoldable pub copy_process : List ℕ → ℕ → ℕ → List ℕ
copy_process l p t = build (length l) (λ i. cond (eqb (i / most_objects) t) (at l (place p (i % most_objects))) (at l i))
