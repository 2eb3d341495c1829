-- The result is `open_for v c`.
use borrow.Author.Tests.{eq-eqb, ne_eqb}
use Rattle.labels.specs.Decisions.{◌or◌}
use Rattle.rules.specs.Questions.{open_for}
use Rattle.questions.proofs.open_for.Goals as goal

pub returns-then-c-eq-READ_REQUEST : goal.returns-then-c-eq-READ_REQUEST
unfolding open_for
returns-then-c-eq-READ_REQUEST c = rw (eq-eqb _ 12 c.if-c-eq-READ_REQUEST.true, c.reading-reads.ensures)

pub returns-then-c-eq-WRITE_REQUEST : goal.returns-then-c-eq-WRITE_REQUEST
unfolding open_for
returns-then-c-eq-WRITE_REQUEST c = rw (ne_eqb _ 12 c.if-c-eq-READ_REQUEST.false, eq-eqb _ 19 c.if-c-eq-WRITE_REQUEST.true, c.writing-writes.ensures)

pub returns : goal.returns
unfolding open_for ◌or◌
returns c =
    rw (ne_eqb _ 12 c.if-c-eq-READ_REQUEST.false, ne_eqb _ 19 c.if-c-eq-WRITE_REQUEST.false, c.writing-writes.ensures, c.reading-reads.ensures)
