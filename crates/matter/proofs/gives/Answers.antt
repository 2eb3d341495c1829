-- The result is `gives request k`.
use Rattle.labels.specs.Decisions.{◌and◌}
use Rattle.matter.proofs.gives.Goals as goal

pub returns-in-Writes : goal.returns-in-Writes
unfolding ◌and◌
returns-in-Writes c = rw c.in-Writes.is
