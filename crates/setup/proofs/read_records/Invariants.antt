-- At each record the rest is read as the whole is, and what is no part of a facility stays.
use Rattle.std.specs.Prelude.{◌*◌, ◌/◌, ◌≡◌, drop, length}
use Rattle.std.specs.Iterator.Adapters.{enumerate_source, enumerate_count}
use Rattle.std.specs.Slice.Iter.{chunks_exact_rest, chunks_exact_size}
use Rattle.setup.specs.Laws.FirstRecord.{From}
use Rattle.setup.proofs.read_records.Given as goal

abbrev pub invariant-loop-k : goal.invariant-loop-k
invariant-loop-k g l =
    let chunks = enumerate_source l.k-iterator in
    let k = enumerate_count l.k-iterator in
    (chunks_exact_size chunks ≡ 8)
    × (chunks_exact_rest chunks ≡ drop (k * 8) l.bytes)
    × From l.bytes (length l.bytes / 8) k (g.S.FacilityStore.facility l.s) l.before
    × g.S.FacilityStore.becomes l.initial.s l.s (g.S.FacilityStore.facility l.s)
