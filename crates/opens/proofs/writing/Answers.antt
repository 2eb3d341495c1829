-- The result is `writing marks`.
use mathlib.Core.Path.{refl}
use Rattle.opens.specs.Opens.{writing}
use Rattle.opens.proofs.writing.Goals as goal

pub returns : goal.returns
unfolding writing
returns c = refl
