-- Nothing where there is no flag.
use borrow.Author.Tests.{eq-eqb, ne_eqb}
use Rattle.names.specs.Reasons.{flag_reason}
use Rattle.text.specs.Laws.Puts.{◌▹◌}
use Rattle.names.proofs.put_flag_reason.Goals as goal

pub returns-then-flag-eq0 : goal.returns-then-flag-eq0
unfolding flag_reason
returns-then-flag-eq0 c = rw (eq-eqb _ 0 c.if-flag-eq0.true) c.nothing.ensures

pub returns : goal.returns
unfolding flag_reason
returns c =
    rw (ne_eqb _ 0 c.if-flag-eq0.false)
    (c.text.ensures ▹ c.put_flag_word.ensures ▹ c.text-2.ensures ▹ c.small.ensures ▹ c.text-3.ensures)
