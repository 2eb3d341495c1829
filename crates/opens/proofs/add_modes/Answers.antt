-- The result is `add_modes marks modes`.
use Rattle.std.proofs.Common.{rules}
use Rattle.labels.specs.Decisions.{◌or◌}
use Rattle.opens.specs.Opens.{add_modes}
use Rattle.opens.proofs.add_modes.Goals as goal

pub returns : goal.returns
unfolding add_modes ◌or◌
returns c = search rules
