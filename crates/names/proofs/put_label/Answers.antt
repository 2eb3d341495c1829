-- The level, and the set behind it.
use Rattle.names.specs.Words.{label_word}
use Rattle.text.specs.Laws.Puts.{◌▹◌}
use Rattle.names.proofs.put_label.Goals as goal

pub returns : goal.returns
unfolding label_word
returns c = c.put_level.ensures ▹ c.put_set.ensures
