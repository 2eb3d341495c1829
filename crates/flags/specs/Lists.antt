-- Objects of which three lists are known, and the object that an object inherits from.
use Rattle.std.specs.Prelude.{ℕ, ◌+◌, cond, List, [], None, Option, Some}
use Rattle.state.specs.State.{Objects, objects_from}
use Rattle.rules.specs.FileFlags.{parent_of, inherits}

-- objects of which nothing but lives, flags and parents is looked at
abbrev pub flagged : List ℕ → List ℕ → List ℕ → Objects
flagged lives flags parents = objects_from lives [] [] [] [] flags parents []

-- the parent that object t inherits from, as its number plus 1; 0 where it inherits from none
unfoldable pub inherits_from : Objects → ℕ → ℕ
inherits_from x t = cond (inherits x t) (parent_of x t) 0

-- an object's number plus 1, 0 for none
abbrev pub number_plus_1 : Option ℕ → ℕ
number_plus_1 None = 0
number_plus_1 (Some i) = i + 1
