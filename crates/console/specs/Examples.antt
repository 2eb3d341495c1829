-- What is told of five bytes, of the end of the input and of a failure.
use Rattle.std.specs.Prelude.{true, false, ◌≡◌, refl, List, [], ◌∷◌, map, ℕ, ℤ, pos, negsuc}
use Rattle.console.specs.declared.Input.{Input}
use Rattle.console.specs.Files.{input_of, kept_bytes, written_of}

abbrev told : ℕ → ℤ → Input
told total said = input_of (21 ∷ 0 ∷ 0 ∷ 0 ∷ 13 ∷ 99 ∷ 99 ∷ 99 ∷ []) total said

abbrev inputs : List Input
inputs = told 5 (pos 5) ∷ told 5 (pos 0) ∷ told 1 (negsuc 0) ∷ []

pub told_lined : map (λ (i : Input). i.lined) inputs ≡ 4 ∷ 5 ∷ 1 ∷ []
told_lined = refl

pub told_kept : map (λ (i : Input). kept_bytes i.kept) inputs ≡ (13 ∷ []) ∷ [] ∷ [] ∷ []
unfolding kept_bytes
told_kept = refl

pub told_more : map (λ (i : Input). i.more) inputs ≡ true ∷ false ∷ false ∷ []
told_more = refl

pub told_failed : map (λ (i : Input). i.failed) inputs ≡ false ∷ false ∷ true ∷ []
told_failed = refl

-- all of a text is written where all its bytes are taken
pub told_all : map (λ (n : ℕ). (written_of (49 ∷ 10 ∷ []) n).all) (0 ∷ 1 ∷ 2 ∷ []) ≡ false ∷ false ∷ true ∷ []
told_all = refl
