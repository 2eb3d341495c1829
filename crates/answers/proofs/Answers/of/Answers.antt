-- The result is `answers_from mac fc sim ff`.
use Rattle.answers.specs.Outcomes.{answers_from}
use Rattle.answers.proofs.Answers.of.Goals as goal

pub returns : goal.returns
unfolding answers_from
returns c = rw (c.combine-combined.ensures, c.combine-rest.ensures, c.combine-last.ensures)
