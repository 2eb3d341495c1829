-- The result is `levelled v c`.
use borrow.Author.Tests.{eq-eqb, ne_eqb}
use Rattle.rules.specs.Modules.{levelled}
use Rattle.modules.proofs.levelled.Goals as goal

pub returns-then-v-eq1 : goal.returns-then-v-eq1
unfolding levelled
returns-then-v-eq1 c = rw (c.set_level.ensures, c.wanted.ensures, eq-eqb _ 1 c.if-v-eq1.true)

pub returns : goal.returns
unfolding levelled
returns c = rw (ne_eqb _ 1 c.if-v-eq1.false)
