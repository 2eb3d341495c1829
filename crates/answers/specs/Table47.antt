-- Table 4.7 of source document 000, row by row, with its symmetry, and that modules may be combined in any grouping.
use Rattle.std.specs.Prelude.{◌≡◌, [], ◌∷◌}
use Rattle.answers.specs.Answers.{Answer, NotCared, Granted, NotGranted, Undefined, combine}

pub record Table47 : Type 0 where
  -- the ten rows, in the table's order: yes is granted, no is not granted
  pub rows :
      combine Granted Granted ∷ combine Granted NotGranted ∷ combine Granted NotCared ∷ combine Granted Undefined
      ∷ combine NotGranted NotGranted ∷ combine NotGranted NotCared ∷ combine NotGranted Undefined
      ∷ combine NotCared NotCared ∷ combine NotCared Undefined
      ∷ combine Undefined Undefined ∷ []
      ≡ Granted ∷ NotGranted ∷ Granted ∷ Undefined
      ∷ NotGranted ∷ NotGranted ∷ Undefined
      ∷ NotCared ∷ Undefined
      ∷ Undefined ∷ []
  pub symmetric : (a b : Answer) → combine a b ≡ combine b a
  pub associative : (a b c : Answer) → combine (combine a b) c ≡ combine a (combine b c)
