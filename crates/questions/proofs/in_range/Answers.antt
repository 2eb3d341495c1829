-- The result is `in_range (action_of c.request) c`.
use Rattle.labels.specs.Decisions.{◌and◌}
use Rattle.rules.specs.Questions.{in_range}
use Rattle.questions.proofs.in_range.Goals as goal

pub returns : goal.returns
unfolding in_range ◌and◌
returns c =
    rw (c.only_if-signal.ensures, c.only_if-clone.ensures, c.is_send_signal.ensures, c.is_clone.ensures)
