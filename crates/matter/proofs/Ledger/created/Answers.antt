-- The result is `created_of self c`.
use Rattle.matter.specs.LedgerSteps.{created_of}
use Rattle.matter.proofs.Ledger.created.Goals as goal

pub returns-then-in_directory : goal.returns-then-in_directory
unfolding created_of
returns-then-in_directory c = rw (← c.in_directory.ensures, c.if-in_directory.true, c.entered.ensures, c.object_gains.ensures)

pub returns : goal.returns
unfolding created_of
returns c = rw (← c.in_directory.ensures, c.if-in_directory.false, c.entered-2.ensures)
