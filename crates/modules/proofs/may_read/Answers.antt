-- The result is `may_read l r clr`.
use Rattle.labels.specs.Decisions.{◌and◌, ◌or◌}
use Rattle.rules.specs.Modules.{may_read}
use Rattle.modules.proofs.may_read.Goals as goal

pub returns : goal.returns
unfolding may_read ◌and◌ ◌or◌
returns c =
    rw (c.at_most-2.ensures, c.at_most.ensures, c.join-above.ensures, c.at_most-below.ensures)
