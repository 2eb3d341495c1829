-- The result is `reading marks`.
use mathlib.Core.Path.{refl}
use Rattle.opens.specs.Opens.{reading}
use Rattle.opens.proofs.reading.Goals as goal

pub returns : goal.returns
unfolding reading
returns c = refl
