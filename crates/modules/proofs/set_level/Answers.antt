-- The result is `set_level l r`.
use mathlib.Core.Path.{refl}
use Rattle.rules.specs.Modules.{set_level}
use Rattle.modules.proofs.set_level.Goals as goal

pub returns : goal.returns
unfolding set_level
returns c = refl
