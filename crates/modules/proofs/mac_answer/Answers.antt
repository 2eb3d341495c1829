-- The result is `mac_answer_by q v c`.
use borrow.Author.Tests.{eq-eqb, ne_eqb}
use Rattle.modules.specs.Parts.{mac_answer_by}
use Rattle.modules.proofs.mac_answer.Goals as goal

pub returns-then-v-eq1 : goal.returns-then-v-eq1
unfolding mac_answer_by
returns-then-v-eq1 c = rw (eq-eqb _ 1 c.if-v-eq1.true, c.mac_rule.ensures)

pub returns : goal.returns
unfolding mac_answer_by
returns c = rw (ne_eqb _ 1 c.if-v-eq1.false)
