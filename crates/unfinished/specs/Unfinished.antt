-- Document 02, Ticket 7: the open that each process has begun and not finished, four bytes for each process, one behind the other.
pub use Rattle.unfinished.specs.declared.Unfinished.{Unfinished}
use Rattle.std.specs.Prelude.{ℕ, ◌+◌, ◌*◌, List, set}
use Rattle.labels.specs.Decisions.{at}
use Rattle.opens.specs.Opens.{most_processes}

-- how many bytes there are for all processes
abbrev pub most_unfinished : ℕ
most_unfinished = 4 * most_processes

-- a process that has begun nothing
abbrev pub no_unfinished : Unfinished
no_unfinished = record { request = 0; target = 0; extra = 0; first = 0 }

-- the bytes of process p
unfoldable pub unfinished_in : List ℕ → ℕ → Unfinished
unfinished_in l p = record { request = at l (4 * p); target = at l (4 * p + 1); extra = at l (4 * p + 2); first = at l (4 * p + 3) }

unfoldable pub with_unfinished : List ℕ → ℕ → Unfinished → List ℕ
with_unfinished l p u =
    set (set (set (set l (4 * p) u.request) (4 * p + 1) u.target) (4 * p + 2) u.extra) (4 * p + 3) u.first
