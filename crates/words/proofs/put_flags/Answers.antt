-- The texts of the flags, one behind the other.
use Rattle.words.specs.Sentences.{flags_text}
use Rattle.text.specs.Laws.Puts.{◌▹◌}
use Rattle.words.proofs.put_flags.Goals as goal

pub returns : goal.returns
unfolding flags_text
returns c = c.put_flag.ensures ▹ c.put_flag-2.ensures ▹ c.put_flag-3.ensures ▹ c.put_flag-4.ensures ▹ c.put_flag-5.ensures
