-- Each part is compared.
use Rattle.labels.specs.Decisions.{◌and◌}
use Rattle.words.specs.Short.{same_process}
use Rattle.words.proofs.short.same_process.Goals as goal

pub returns : goal.returns
unfolding same_process ◌and◌
returns c =
    rw (c.same.ensures, c.same-2.ensures, c.same-3.ensures)
