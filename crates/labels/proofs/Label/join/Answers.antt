-- The result is `join self other`.
use Rattle.std.proofs.Common.{rules}
use Rattle.labels.specs.Labels.{join}
use Rattle.labels.proofs.Label.join.Goals as goal

pub returns : goal.returns
unfolding join
returns c = search rules
