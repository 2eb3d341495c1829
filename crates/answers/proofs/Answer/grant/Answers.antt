-- The result is `grant test`.
use Rattle.answers.specs.Answers.{grant}
use Rattle.answers.proofs.Answer.grant.Goals as goal

pub returns-then-test : goal.returns-then-test
unfolding grant
returns-then-test c = rw c.if-test.true

pub returns-else-test : goal.returns-else-test
unfolding grant
returns-else-test c = rw c.if-test.false
