-- One store for each object, which together are the opens with those of process p copied to t.
use Rattle.std.specs.Prelude.{◌≡◌}
use Rattle.labels.specs.Decisions.{at}
use Rattle.opens.specs.Opens.{place}
use Rattle.opens.specs.Laws.Loops.{puts}
use Rattle.opens.proofs.copy_marks.Given as goal

abbrev pub invariant-loop-k : goal.invariant-loop-k
invariant-loop-k l = l.marks ≡ puts l.initial.marks (λ j. place l.t j) (λ j. at l.initial.marks (place l.p j)) l.k
