-- What a read of a file or of calls came to, and what a write did, by what the system said. Which bytes it gave, or took, nothing defines.
use Rattle.std.specs.Prelude.{ℕ, ◌+◌, ◌-◌, ◌%◌, ◌≤◌, Bool, true, false, cond, ◌≡◌, List, [], ◌∷◌, ltb, eqb, length, take, ℤ, pos, negsuc}
use Rattle.io.specs.Counts.{IsPrefixLen}
use Rattle.labels.specs.Decisions.{at}
use Rattle.console.specs.declared.Kept.{Kept}
use Rattle.console.specs.declared.Input.{Input}
use Rattle.console.specs.declared.Written.{Written}

-- what the system says of a read: above 0 so many bytes, 0 the end of the input, below 0 a failure
abbrev pub bytes_said : ℤ → ℕ
bytes_said (pos n) = n
bytes_said (negsuc n) = 0

abbrev pub more_said : ℤ → Bool
more_said (pos n) = ltb 0 n
more_said (negsuc n) = false

abbrev pub failure_said : ℤ → Bool
failure_said (pos n) = false
failure_said (negsuc n) = true

-- what may be said of a read into n bytes: how many it brought, at most n, or -1
abbrev pub Moved : ℕ → ℤ → Type 0
Moved n (pos k) = k ≤ n
Moved n (negsuc k) = k ≡ 0

-- A file that was read to its end, or to the buffer's: the last read brought nothing; where it failed no byte counts.
pub record WholeFile (bytes : List ℕ) (total : ℕ) (said : ℤ) : Type 0 where
  pub within : IsPrefixLen total bytes
  pub last : more_said said ≡ false
  pub failed : failure_said said ≡ true → total ≡ 0

-- the bytes between two places, as they are kept for the next read: three of them from the first place on, and how many of these there are
abbrev pub kept_from : List ℕ → ℕ → ℕ → Kept
kept_from bytes from to =
    record { count = to - from; bytes = at bytes from ∷ at bytes (from + 1) ∷ at bytes (from + 2) ∷ [] }

abbrev pub nothing_kept : Kept
nothing_kept = kept_from [] 0 0

-- the bytes that are kept
unfoldable pub kept_bytes : Kept → List ℕ
kept_bytes k = take k.count (take 3 k.bytes)

-- and those that stand in front of a buffer, which has to have room for a call
abbrev pub kept_in : Kept → List ℕ → List ℕ
kept_in k bytes = cond (ltb (length bytes) 4) [] (kept_bytes k)

-- how many of n bytes are lined: while there may be more, those of whole calls; at the end all
abbrev pub whole_calls : ℕ → Bool → ℕ
whole_calls n more = cond more (n - n % 4) n

-- what a read of calls is told as, by the buffer after it, how many of its bytes there are and what the system said
abbrev pub input_of : List ℕ → ℕ → ℤ → Input
input_of bytes total said =
    record {
      lined = whole_calls total (more_said said);
      kept = kept_from bytes (whole_calls total (more_said said)) total;
      more = more_said said;
      failed = failure_said said;
      said = said;
    }

-- A read of calls behind the bytes that were kept: these stand in front of those that it brought, and all that is told follows from what the system said.
pub record CallsRead (k : Kept) (bytes : List ℕ) (r : Input) : Type 0 where
  pub begins : take (length (kept_in k bytes)) bytes ≡ kept_in k bytes
  pub within : length (kept_in k bytes) + bytes_said r.said ≤ length bytes
  pub told : r ≡ input_of bytes (length (kept_in k bytes) + bytes_said r.said) r.said

-- what a write is told as, by how many bytes of the text the system took
abbrev pub written_of : List ℕ → ℕ → Written
written_of text taken = record { taken = taken; all = eqb taken (length text) }
