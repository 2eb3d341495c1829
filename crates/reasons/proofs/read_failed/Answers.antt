-- The result is `read_failed l r clr`.
use Rattle.reasons.specs.Reasons.{read_failed}
use Rattle.reasons.proofs.read_failed.Goals as goal

pub returns : goal.returns
unfolding read_failed
returns c =
    rw (c.unless.ensures, c.at_most-cleared.ensures, c.at_most-under.ensures, c.join-above.ensures, c.at_most-held.ensures)
