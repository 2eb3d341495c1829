-- The result is `mac_alone Action.SetLevel v c`.
use Rattle.modules.specs.Parts.{mac_alone}
use Rattle.modules.proofs.mac_set_level.Goals as goal

pub returns : goal.returns
unfolding mac_alone
returns c = rw (c.grant.ensures, c.may_set.ensures, c.wanted.ensures)
