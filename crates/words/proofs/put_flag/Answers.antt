-- A flag is told where the test finds it.
use mathlib.Core.Path.{sym, ◌∙◌}
use Rattle.words.specs.Sentences.{flag_text}
use Rattle.words.proofs.put_flag.Goals as goal

pub returns-then-has : goal.returns-then-has
unfolding flag_text
returns-then-has c = rw (sym c.has.ensures ∙ c.if-has.true) c.put_one.ensures

pub returns : goal.returns
unfolding flag_text
returns c = rw (sym c.has.ensures ∙ c.if-has.false) c.nothing.ensures
