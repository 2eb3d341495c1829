-- The calls that are left lead to the facility after all.
use Prim.Native.Nat.{◌+◌, ◌/◌, ◌≤◌}
use mathlib.Core.Path.{◌≡◌}
use lib.ListN.{length}
use Rattle.std.specs.Iterator.Adapters.{enumerate_source, enumerate_count}
use Rattle.std.specs.Slice.Iter.{chunks_exact_rest, chunks_exact_size}
use Rattle.rules.specs.Histories.{run}
use Rattle.rules.specs.Lines.{calls_of}
use Rattle.run_words.proofs.tell_block.Given as goal

abbrev pub invariant-loop-i : goal.invariant-loop-i
invariant-loop-i g l =
    let chunks = enumerate_source l.i-iterator in
    (chunks_exact_size chunks ≡ 4)
    × (enumerate_count l.i-iterator + length (chunks_exact_rest chunks) / 4 ≤ length l.calls / 4)
    × (run l.f (calls_of (chunks_exact_rest chunks)) ≡ run l.fn.start (calls_of l.calls))
