-- The result is `mac_signal r u receiver`.
use Rattle.labels.specs.Decisions.{◌or◌}
use Rattle.rules.specs.Modules.{mac_signal}
use Rattle.modules.proofs.mac_signal.Goals as goal

pub returns : goal.returns
unfolding mac_signal ◌or◌
returns c = rw (c.grant.ensures, c.same-equal.ensures)
