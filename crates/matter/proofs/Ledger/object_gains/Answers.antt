-- The result is `object_gains_of self p t`.
use Rattle.matter.specs.LedgerSteps.{object_gains_of}
use Rattle.matter.proofs.Ledger.object_gains.Goals as goal

pub returns : goal.returns
unfolding object_gains_of
returns c =
    rw (c.with_object.ensures, c.merged-s.ensures, c.process_members.ensures, c.object_members.ensures)
