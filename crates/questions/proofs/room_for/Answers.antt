-- The result is `room_for k v c`.
use Rattle.rules.specs.Questions.{room_for}
use Rattle.questions.proofs.room_for.Goals as goal

pub returns : goal.returns
unfolding room_for
returns c = rw (c.only_if.ensures, c.is_create.ensures)
