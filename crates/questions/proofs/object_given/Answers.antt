-- The result is `cond (eqb number 0 and is_create k) entered 255`.
use Rattle.labels.specs.Decisions.{◌and◌}
use Rattle.questions.proofs.object_given.Goals as goal

pub returns-then-number-is_create : goal.returns-then-number-is_create
unfolding ◌and◌
returns-then-number-is_create c = rw (← c.is_create.ensures, c.if-number-is_create.true)

pub returns : goal.returns
unfolding ◌and◌
returns c = rw (← c.is_create.ensures, c.if-number-is_create.false)
