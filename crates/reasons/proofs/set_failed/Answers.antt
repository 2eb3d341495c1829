-- The result is `set_failed l r clr`.
use Rattle.reasons.specs.Reasons.{set_failed}
use Rattle.reasons.proofs.set_failed.Goals as goal

pub returns : goal.returns
unfolding set_failed
returns c =
    rw (c.unless.ensures, c.at_most-cleared.ensures, c.at_most-under.ensures, c.at_most-over.ensures)
