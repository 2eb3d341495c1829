-- The texts, one behind the other.
use Rattle.text.specs.Laws.Puts.{◌▹◌}
use Rattle.words.proofs.put_sentence.Goals as goal

pub returns : goal.returns
returns c =
    c.put_before.ensures ▹ c.put_target.ensures ▹ c.put_outcome.ensures ▹ c.put_process.ensures ▹ c.put_later.ensures
    ▹ c.put_count.ensures ▹ c.text.ensures
