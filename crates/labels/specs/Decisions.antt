-- Decisions as Bool, and how a decision is turned into facts. `_and_`, `_or_` and `ask` stay shut, so that `_` finds their parts.
use Rattle.std.specs.Prelude.{ℕ, Bool, true, false, List, get_or, eqb}

infixr 35 ◌and◌
infixr 30 ◌or◌
unfoldable pub ◌and◌ : Bool → Bool → Bool
true and b = b
false and b = false

unfoldable pub ◌or◌ : Bool → Bool → Bool
true or b = true
false or b = b

-- a question that is put only where `b` says so; elsewhere its answer is yes
abbrev pub asked : Bool → Bool → Bool
asked true b = b
asked false b = true

-- one of the ordered questions: yes goes on to the later ones, no gives the refusal number n
unfoldable pub ask : Bool → ℕ → ℕ → ℕ
ask true n later = later
ask false n later = n

-- the element of an array, 0 outside it
abbrev pub at : List ℕ → ℕ → ℕ
at l i = get_or l i 0

-- a switch, flag or mark that is on
abbrev pub on : ℕ → Bool
on n = eqb n 1
