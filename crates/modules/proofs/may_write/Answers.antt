-- The result is `may_write l r clr`.
use Rattle.labels.specs.Decisions.{◌and◌, ◌or◌}
use Rattle.rules.specs.Modules.{may_write}
use Rattle.modules.proofs.may_write.Goals as goal

pub returns : goal.returns
unfolding may_write ◌and◌ ◌or◌
returns c =
    rw (c.at_most-3.ensures, c.at_most-2.ensures, c.at_most.ensures, c.same-held.ensures)
