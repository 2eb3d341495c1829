-- The result is `number_at seat process`.
use borrow.Author.Tests.{eq-eqb, ne_eqb}
use Rattle.hvozdalka.specs.Numbers.{number_at}
use Rattle.hvozdalka.proofs.number_at.Goals as goal

pub returns-then-seat-eq0 : goal.returns-then-seat-eq0
unfolding number_at
returns-then-seat-eq0 c = rw (eq-eqb _ 0 c.if-seat-eq0.true)

pub returns : goal.returns
unfolding number_at
returns c = rw (ne_eqb _ 0 c.if-seat-eq0.false)
