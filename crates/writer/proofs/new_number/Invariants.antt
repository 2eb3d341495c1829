-- The live objects so far.
use Rattle.std.specs.Prelude.{◌≡◌}
use Rattle.rules.specs.Setup.{new_number}
use Rattle.state.specs.State.{objects_in}
use Rattle.writer.proofs.new_number.Given as goal

abbrev pub invariant-loop-k : goal.invariant-loop-k
invariant-loop-k g l = l.n ≡ new_number (objects_in (g.S.FacilityStore.facility l.s)) l.k
