-- The result is `outcome_of number answers object`.
use borrow.Author.Tests.{eq-eqb, ne_eqb}
use Rattle.answers.specs.Outcomes.{outcome_of}
use Rattle.answers.proofs.Outcome.of.Goals as goal

pub returns-then-number-eq0 : goal.returns-then-number-eq0
unfolding outcome_of
returns-then-number-eq0 c = rw (eq-eqb _ 0 c.if-number-eq0.true)

pub returns-then-is_denial : goal.returns-then-is_denial
unfolding outcome_of
returns-then-is_denial c = rw (ne_eqb _ 0 c.if-number-eq0.false, ← c.is_denial.ensures, c.if-is_denial.true)

pub returns : goal.returns
unfolding outcome_of
returns c = rw (ne_eqb _ 0 c.if-number-eq0.false, ← c.is_denial.ensures, c.if-is_denial.false)
