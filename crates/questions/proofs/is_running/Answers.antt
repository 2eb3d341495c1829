-- The result is `is_running (action_of request) runs`.
use Rattle.labels.specs.Decisions.{◌and◌}
use Rattle.rules.specs.Questions.{is_running}
use Rattle.questions.proofs.is_running.Goals as goal

pub returns : goal.returns
unfolding is_running ◌and◌
returns c =
    rw (c.only_if-receiver.ensures, c.only_if-caller.ensures, c.is_send_signal.ensures, c.is_login.ensures)
