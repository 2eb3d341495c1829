-- Four texts, one behind the other.
use Rattle.text.specs.Laws.Puts.{◌▹◌}
use Rattle.words.proofs.put_before.Goals as goal

pub returns : goal.returns
returns c = c.decimal.ensures ▹ c.put_one.ensures ▹ c.put_process.ensures ▹ c.put_one-2.ensures
