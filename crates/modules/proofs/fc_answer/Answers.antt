-- The result is `fc_answer_by q v`.
use Rattle.labels.specs.Decisions.{◌and◌}
use Rattle.modules.specs.Parts.{fc_answer_by}
use Rattle.modules.proofs.fc_answer.Goals as goal

pub returns-then-v-q : goal.returns-then-v-q
unfolding fc_answer_by ◌and◌
returns-then-v-q c = rw (c.fc_rule.ensures, c.if-v-q.true)

pub returns : goal.returns
unfolding fc_answer_by ◌and◌
returns c = rw c.if-v-q.false
