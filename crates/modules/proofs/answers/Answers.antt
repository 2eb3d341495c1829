-- The result is `answers_by q v c`.
use Rattle.modules.specs.Parts.{answers_by}
use Rattle.modules.proofs.answers.Goals as goal

pub returns : goal.returns
unfolding answers_by
returns c =
    rw (c.of.ensures, c.ff_answer.ensures, c.sim_answer.ensures, c.fc_answer.ensures, c.mac_answer.ensures)
