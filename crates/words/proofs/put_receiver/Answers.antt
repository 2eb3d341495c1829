-- Three texts, one behind the other.
use Rattle.text.specs.Laws.Puts.{◌▹◌}
use Rattle.words.proofs.put_receiver.Goals as goal

pub returns : goal.returns
returns c = c.put_one.ensures ▹ c.put_process.ensures ▹ c.text.ensures
