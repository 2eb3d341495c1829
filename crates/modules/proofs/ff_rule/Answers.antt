-- The result is `ff_rule request k o seen`.
use borrow.Author.Tests.{eq-eqb, ne_eqb}
use Rattle.rules.specs.Modules.{ff_rule}
use Rattle.modules.proofs.ff_rule.Goals as goal

pub returns-then-forbidding-eq0 : goal.returns-then-forbidding-eq0
unfolding ff_rule
returns-then-forbidding-eq0 c = rw (← c.forbidding.ensures, eq-eqb _ 0 c.if-forbidding-eq0.true)

pub returns : goal.returns
unfolding ff_rule
returns c = rw (← c.forbidding.ensures, ne_eqb _ 0 c.if-forbidding-eq0.false)
