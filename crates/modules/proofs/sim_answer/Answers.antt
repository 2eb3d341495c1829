-- The result is `sim_answer_by q v c`.
use Rattle.labels.specs.Decisions.{◌and◌}
use Rattle.modules.specs.Parts.{sim_answer_by}
use Rattle.modules.proofs.sim_answer.Goals as goal

pub returns-then-v-q : goal.returns-then-v-q
unfolding sim_answer_by ◌and◌
returns-then-v-q c = rw (c.sim_rule.ensures, c.if-v-q.true)

pub returns : goal.returns
unfolding sim_answer_by ◌and◌
returns c = rw c.if-v-q.false
