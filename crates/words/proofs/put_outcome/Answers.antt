-- The answers, what failed, what was made, and a link.
use Rattle.text.specs.Laws.Puts.{◌▹◌}
use Rattle.words.proofs.put_outcome.Goals as goal

pub returns : goal.returns
returns c = c.put_answers.ensures ▹ c.put_failed.ensures ▹ rw c.object.ensures at c.put_made.ensures ▹ c.text.ensures
