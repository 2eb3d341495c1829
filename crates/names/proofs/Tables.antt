-- What a table of words has at a number.
use Prim.Native.Nat.{ℕ, zero, suc}
use mathlib.Core.Path.{◌≡◌, refl}
use mathlib.Core.List.{List, [], ◌∷◌}
use lib.ListN.{get_or}
use Rattle.std.proofs.Common.{Bor, map}
use Rattle.names.specs.Words.{word_in}

-- the word at a number, and past the last the word for none
pub word_found : (none : Bor (List ℕ)) (ws : List (Bor (List ℕ))) (n : ℕ) → (get_or ws n none).now ≡ word_in none.now (map (λ w. w.now) ws) n
word_found none [] n = refl
word_found none (w ∷ ws) zero = refl
word_found none (w ∷ ws) (suc n) = word_found none ws n
