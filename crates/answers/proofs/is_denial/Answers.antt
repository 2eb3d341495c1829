-- The result is `denies number`.
use mathlib.Core.Path.{refl}
use Rattle.labels.specs.Decisions.{◌or◌}
use Rattle.answers.specs.Outcomes.{denies}
use Rattle.answers.proofs.is_denial.Goals as goal

pub returns : goal.returns
unfolding denies ◌or◌
returns c = refl
