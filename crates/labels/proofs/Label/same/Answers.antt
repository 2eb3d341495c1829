-- The result is `same self other`.
use Rattle.std.proofs.Common.{rules}
use Rattle.labels.specs.Labels.{same}
use Rattle.labels.specs.Decisions.{◌and◌}
use Rattle.labels.proofs.Label.same.Goals as goal

pub returns : goal.returns
unfolding same ◌and◌
returns c = search rules
