-- What is left of the pattern, stored behind what is stored, makes the whole.
use Rattle.std.specs.Prelude.{◌≤◌}
use Rattle.words.proofs.Patterns.{Filled}
use Rattle.words.proofs.put_filled.Given as goal

abbrev pub invariant-loop-x : goal.invariant-loop-x
invariant-loop-x l = (l.i ≤ l.x-index) × Filled l.pattern l.numbers l.fn.out l.out l.i l.x-index
