-- The source further up is the source of the whole.
use Rattle.std.specs.Prelude.{◌≡◌}
use Rattle.rules.specs.FileFlags.{flag_source}
use Rattle.state.specs.State.{objects_in}
use Rattle.flags.proofs.source.Given as goal

abbrev pub invariant-loop-i : goal.invariant-loop-i
invariant-loop-i g l =
    flag_source (objects_in (g.S.FacilityStore.facility l.s)) l.i l.m ≡ flag_source (objects_in (g.S.FacilityStore.facility l.s)) l.t l.flag

abbrev pub decreases-loop-i : goal.decreases-loop-i
decreases-loop-i g l = l.i
