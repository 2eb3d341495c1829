-- One store in each row, which together are the opens without those on object t.
use Rattle.std.specs.Prelude.{◌≡◌}
use Rattle.opens.specs.Opens.{place}
use Rattle.opens.specs.Laws.Loops.{puts}
use Rattle.opens.proofs.close_object.Given as goal

abbrev pub invariant-loop-row : goal.invariant-loop-row
invariant-loop-row l = l.marks ≡ puts l.initial.marks (λ j. place j l.t) (λ j. 0) l.row
