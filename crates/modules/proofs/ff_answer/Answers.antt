-- The result is `ff_answer_by q v c`.
use Rattle.labels.specs.Decisions.{◌and◌}
use Rattle.modules.specs.Parts.{ff_answer_by}
use Rattle.modules.proofs.ff_answer.Goals as goal

pub returns-then-v-q : goal.returns-then-v-q
unfolding ff_answer_by ◌and◌
returns-then-v-q c = rw (c.ff_rule.ensures, c.if-v-q.true)

pub returns : goal.returns
unfolding ff_answer_by ◌and◌
returns c = rw c.if-v-q.false
