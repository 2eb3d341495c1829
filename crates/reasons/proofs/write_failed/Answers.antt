-- The result is `write_failed l r clr`.
use Rattle.reasons.specs.Reasons.{write_failed}
use Rattle.reasons.proofs.write_failed.Goals as goal

pub returns : goal.returns
unfolding write_failed
returns c =
    rw (c.unless.ensures, c.at_most-cleared.ensures, c.at_most-under.ensures, c.at_most-over.ensures, c.same-held.ensures)
