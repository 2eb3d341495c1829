-- The result is `leq self other`.
use mathlib.Core.Path.{refl}
use Rattle.labels.specs.Labels.{leq, within}
use Rattle.labels.specs.Decisions.{◌and◌}
use Rattle.labels.proofs.Label.at_most.Goals as goal

pub returns : goal.returns
unfolding leq within ◌and◌
returns c = refl
