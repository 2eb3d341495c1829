-- Each object so far holds itself.
use Rattle.std.specs.Prelude.{◌≡◌}
use Rattle.matter.specs.LedgerSteps.{selves}
use Rattle.matter.proofs.selves.Given as goal

abbrev pub invariant-loop-t : goal.invariant-loop-t
invariant-loop-t l = l.words ≡ selves l.t
