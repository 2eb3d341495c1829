-- What follows from what the system said.
use lib.IntN.{ℤ, pos, negsuc}
use mathlib.Core.Path.{◌≡◌, refl, sym}
use mathlib.Core.Bool.{true, false}
use Rattle.labels.proofs.Laws.Decisions.{clash}
use Rattle.console.specs.Files.{bytes_said, failure_said, more_said}

-- where there may be more nothing failed; a failure brings nothing, and ends the input
pub more_no_failure : (z : ℤ) → more_said z ≡ true → failure_said z ≡ false
more_no_failure (pos n) h = refl
more_no_failure (negsuc n) h = sym h

pub failed_none : (z : ℤ) → failure_said z ≡ true → bytes_said z ≡ 0
failed_none (pos n) h = clash h refl
failed_none (negsuc n) h = refl

pub failed_no_more : (z : ℤ) → failure_said z ≡ true → more_said z ≡ false
failed_no_more (pos n) h = clash h refl
failed_no_more (negsuc n) h = refl
