-- The number, what failed, and what was made.
use Rattle.text.specs.Laws.Puts.{◌▹◌}
use Rattle.words.proofs.short.put_outcome.Goals as goal

pub returns : goal.returns
returns c = rw c.number-n.ensures at c.put_filled.ensures ▹ c.put_failed.ensures ▹ rw c.object.ensures at c.put_made.ensures
