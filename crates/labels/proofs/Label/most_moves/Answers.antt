-- Eight categories at most are counted, so that nothing overflows.
use borrow.Author.Rules.{rules}
use Rattle.labels.specs.Labels.{rank}
use Rattle.labels.proofs.Label.most_moves.Goals as goal

pub returns : goal.returns
unfolding rank
returns c = search rules
