-- What is gathered, with what is inherited further up, makes the effective flags.
use Rattle.std.specs.Prelude.{◌≡◌}
use Rattle.std.specs.Int.Bits.{bit_or}
use Rattle.rules.specs.FileFlags.{effective}
use Rattle.flags.specs.Lists.{number_plus_1}
use Rattle.flags.proofs.Chain.{rest}
use Rattle.state.specs.State.{objects_in}
use Rattle.flags.proofs.effective.Given as goal

abbrev pub invariant-loop-from : goal.invariant-loop-from
invariant-loop-from g l =
    effective (objects_in (g.S.FacilityStore.facility l.s)) l.t
    ≡ bit_or l.v (rest (objects_in (g.S.FacilityStore.facility l.s)) (number_plus_1 l.from))

abbrev pub decreases-loop-from : goal.decreases-loop-from
decreases-loop-from g l = number_plus_1 l.from
