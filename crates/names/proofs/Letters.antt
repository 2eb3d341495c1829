-- The letters of the first categories.
use Prim.Native.Nat.{ℕ, zero, suc, ◌+◌, ◌*◌, ◌^◌, ◌%◌}
use mathlib.Core.List.{List, [], ◌∷◌, ◌++◌}
use Rattle.names.specs.Words.{letter_word}

-- those of the first k categories of the set s, where a category is the bit that the code takes
abbrev pub letters_to : ℕ → ℕ → List ℕ
letters_to s zero = []
letters_to s (suc k) = letters_to s k ++ letter_word ((1 * 2 ^ k) % 256) ((97 + k) ∷ []) s
