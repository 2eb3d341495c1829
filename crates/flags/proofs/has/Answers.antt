-- The result is `has m v`.
use mathlib.Core.Path.{refl}
use Rattle.rules.specs.FileFlags.{has}
use Rattle.flags.proofs.has.Goals as goal

pub returns : goal.returns
unfolding has
returns c = refl
