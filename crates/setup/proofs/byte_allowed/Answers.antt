-- Each arm by the test that it is of.
use Rattle.labels.specs.Decisions.{◌or◌}
use Rattle.setup.proofs.byte_allowed.Goals as goal

pub returns-in-OrUnset : goal.returns-in-OrUnset
unfolding ◌or◌
returns-in-OrUnset c = rw c.in-OrUnset.is
