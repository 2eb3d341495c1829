-- All that a run reads, read after read, and what it writes: no byte is lost, and the texts together are the output of document 01.
use Rattle.answers.specs.Outcomes.{setup_accepted}
use Rattle.std.specs.Prelude.{ℕ, ◌+◌, ◌*◌, ◌/◌, ◌≤◌, true, false, cond, ◌≡◌, List, [], ◌∷◌, ◌++◌, eqb, length, take, drop}
use Rattle.labels.specs.Decisions.{◌and◌}
use Rattle.state.specs.declared.Facility.{Facility}
use Rattle.rules.specs.Setup.{read_setup}
use Rattle.rules.specs.Lines.{call_lines, calls_of, output}
use Rattle.in_place.specs.Layout.{facility_at}
use Rattle.in_place.specs.Stores.{Becomes}
use Rattle.text.specs.Stored.{Stored}
use Rattle.lines.specs.Blocks.{block_text, facility_after, indexed}
use Rattle.console.specs.declared.Kept.{Kept}
use Rattle.console.specs.declared.Input.{Input}
use Rattle.console.specs.Files.{CallsRead, bytes_said, kept_bytes, nothing_kept}
use Rattle.run.specs.declared.After.{After}

-- A read of calls: the buffer after it, and what is told of it.
pub record Read : Type 0 where
  pub bytes : List ℕ
  pub input : Input

-- the bytes that it brought, behind those that were kept; and those that are lined
abbrev pub brought : Kept → Read → List ℕ
brought k r = take (bytes_said r.input.said) (drop (length (kept_bytes k)) r.bytes)

abbrev pub lined : Read → List ℕ
lined r = take r.input.lined r.bytes

-- Reads one after the other, into buffers with room for a call: each is as `read_calls` promises behind what the one before it kept, and after all but the
-- last there may be more. Behind them stands what is told of the last.
pub data Reads : Kept → List Read → Input → Type 0 where
  last : {k : Kept} {r : Read} → CallsRead k r.bytes r.input → 4 ≤ length r.bytes → Reads k (r ∷ []) r.input
  next : {k : Kept} {r : Read} {rs : List Read} {i : Input}
      → CallsRead k r.bytes r.input → 4 ≤ length r.bytes → r.input.more ≡ true → Reads r.input.kept rs i → Reads k (r ∷ rs) i

unfoldable pub all_brought : Kept → List Read → List ℕ
all_brought k [] = []
all_brought k (r ∷ rs) = brought k r ++ all_brought r.input.kept rs

unfoldable pub all_lined : List Read → List ℕ
all_lined [] = []
all_lined (r ∷ rs) = lined r ++ all_lined rs

-- what is written after a read, with so many calls done: the text of the bytes that are lined; nothing where it failed
abbrev pub text_of : ℕ → Facility → Read → List ℕ
text_of done f r = cond r.input.failed [] (block_text (done + 1) f (lined r))

-- and after all of them, one text behind the other
unfoldable pub texts : ℕ → Facility → List Read → List ℕ
texts done f [] = []
texts done f (r ∷ rs) = text_of done f r ++ texts (done + r.input.lined / 4) (facility_after (done + 1) f (lined r)) rs

-- What a turn of the program does: it reads behind what was kept, and the text of what is lined is stored, whole where there is room for the lines of as
-- many calls as were read, and written. More is read where there may be more and the system took the whole text.
pub record Turn (k : Kept) (done : ℕ) (s m : List ℕ) (bytes : List ℕ) (o out : List ℕ) (r : After) : Type 0 where
  pub read : CallsRead k bytes r.input
  pub facility : Becomes s m (facility_after (done + 1) (facility_at s) (take r.input.lined bytes))
  pub stored : Stored o 0 (text_of done (facility_at s) (record { bytes = bytes; input = r.input })) out r.length
  pub whole : 49 * (length bytes / 4) + 6 ≤ length o → take r.length out ≡ text_of done (facility_at s) (record { bytes = bytes; input = r.input })
  pub counted : r.done ≡ done + r.input.lined / 4
  pub written : r.taken ≤ r.length
  pub more : r.more ≡ eqb r.taken r.length and r.input.more

-- No byte is lost, doubled or moved: what is lined and then what is kept is what was brought, and at the end nothing is kept.
pub record NoByteLost : Type 0 where
  pub so_far : (rs : List Read) (i : Input) → Reads nothing_kept rs i → all_lined rs ++ kept_bytes i.kept ≡ all_brought nothing_kept rs
  pub ended : (rs : List Read) (i : Input) → Reads nothing_kept rs i → i.more ≡ false → all_lined rs ≡ all_brought nothing_kept rs

-- What is written is the output of document 01 for the bytes of `setup.bin` and all that the reads brought, as far as the indices of calls go; where the
-- last read failed the lines of the whole calls, without `short`.
abbrev pub few_calls : List ℕ → Type 0
few_calls calls = indexed (length calls / 4 + 1) ≡ true

pub record WholeOutput : Type 0 where
  pub ended : (setup : List ℕ) (rs : List Read) (i : Input) → Reads nothing_kept rs i → i.more ≡ false → i.failed ≡ false
      → (read_setup setup).outcome ≡ setup_accepted → few_calls (all_brought nothing_kept rs)
      → texts 0 (read_setup setup).facility rs ≡ output setup (all_brought nothing_kept rs)
  pub failed : (f : Facility) (rs : List Read) (i : Input) → Reads nothing_kept rs i → i.failed ≡ true → few_calls (all_brought nothing_kept rs)
      → texts 0 f rs ≡ call_lines 1 f (calls_of (all_brought nothing_kept rs))
