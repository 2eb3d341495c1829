-- The result is `held_by self.objects x c`.
use Rattle.matter.specs.LedgerSteps.{held_by}
use Rattle.matter.proofs.Ledger.object_holds.Goals as goal

pub returns : goal.returns
unfolding held_by
returns c = rw (c.has.ensures, c.object_members.ensures)
