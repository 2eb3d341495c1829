-- The texts, one behind the other.
use Rattle.text.specs.Laws.Puts.{◌▹◌}
use Rattle.words.proofs.short.put_short.Goals as goal

pub returns : goal.returns
returns c =
    c.decimal.ensures ▹ c.put_filled.ensures ▹ c.put_short_target.ensures ▹ c.put_outcome.ensures ▹ c.put_caller.ensures
    ▹ c.put_receiver.ensures ▹ c.text.ensures
