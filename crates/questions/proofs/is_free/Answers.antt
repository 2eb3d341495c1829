-- The result is `is_free (action_of request) runs`.
use Rattle.labels.specs.Decisions.{◌and◌}
use Rattle.rules.specs.Questions.{is_free}
use Rattle.questions.proofs.is_free.Goals as goal

pub returns : goal.returns
unfolding is_free ◌and◌
returns c =
    rw (c.only_if-clone.ensures, c.only_if-login.ensures, c.is_clone.ensures, c.is_login.ensures)
