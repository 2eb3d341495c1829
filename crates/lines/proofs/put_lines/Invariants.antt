-- The lines of the calls that are left, stored behind those so far, make the whole.
use Rattle.std.specs.Prelude.{◌+◌, ◌*◌}
use Rattle.lines.proofs.Blocks.{Left}
use Rattle.lines.proofs.put_lines.Given as goal

abbrev pub invariant-loop-k : goal.invariant-loop-k
invariant-loop-k g l =
    Left l.fn.out l.first (g.S.FacilityStore.facility l.initial.s) l.calls l.out (l.first + l.k) (g.S.FacilityStore.facility l.s) (4 * l.k)
    × g.S.FacilityStore.becomes l.initial.s l.s (g.S.FacilityStore.facility l.s)
