-- The result is `meet self other`.
use Rattle.std.proofs.Common.{rules}
use Rattle.labels.specs.Labels.{meet}
use Rattle.labels.proofs.Label.meet.Goals as goal

pub returns : goal.returns
unfolding meet
returns c = search rules
