-- The lines of a block of calls.
use Rattle.std.specs.Prelude.{ℕ, ◌+◌, ◌%◌, ◌/◌, ◌≡◌, length, Bool, cond, List, [], ◌++◌, ltb}
use Rattle.state.specs.declared.Facility.{Facility}
use Rattle.rules.specs.Lines.{calls_of, call_lines, short_line}
use Rattle.rules.specs.Histories.{run}

-- the indices of a block fit where its first is below 2 ^ 63
abbrev pub indexed : ℕ → Bool
indexed first = ltb first 9223372036854775808

-- the lines of a block of calls, and the facility after it; none of it is done where the indices may not fit
unfoldable pub lines_of : ℕ → Facility → List ℕ → List ℕ
lines_of first f calls = cond (indexed first) (call_lines first f (calls_of calls)) []

unfoldable pub facility_after : ℕ → Facility → List ℕ → Facility
facility_after first f calls = cond (indexed first) (run f (calls_of calls)) f

-- and `short` behind them, where bytes are left over
abbrev pub block_text : ℕ → Facility → List ℕ → List ℕ
block_text first f calls = lines_of first f calls ++ short_line calls

-- The lines of whole calls and those of the bytes behind them, one after the other, are the lines of all the bytes.
abbrev pub WholeByBlocks : Type 0
WholeByBlocks =
    (i : ℕ) (f : Facility) (a b : List ℕ) → length a % 4 ≡ 0
    → call_lines i f (calls_of (a ++ b)) ++ short_line (a ++ b)
    ≡ (call_lines i f (calls_of a) ++ short_line a) ++ (call_lines (i + length a / 4) (run f (calls_of a)) (calls_of b) ++ short_line b)
