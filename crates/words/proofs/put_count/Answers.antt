-- After a denial the owner and the counter are told, and else nothing.
use mathlib.Core.Path.{sym, ◌∙◌, ap}
use Rattle.answers.specs.Outcomes.{denies}
use Rattle.text.specs.Laws.Puts.{◌▹◌}
use Rattle.words.proofs.put_count.Goals as goal

pub returns-then-is_denial : goal.returns-then-is_denial
returns-then-is_denial c =
    rw (ap denies (sym c.number.ensures) ∙ sym c.is_denial.ensures ∙ c.if-is_denial.true) (c.put_one.ensures ▹ c.decimal.ensures)
