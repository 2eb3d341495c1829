-- Text stored into a lent buffer from a place on. What does not fit is cut off, so that a store is the same definition for every buffer.
use Rattle.std.specs.Prelude.{ℕ, ◌+◌, min, ◌≡◌, List, length}
use Rattle.std.proofs.lemmas.List.Edits.{sets}
use Rattle.std.specs.Borrow.{MutBor}
use Rattle.text.specs.declared.Out.{Out}

-- after a store of xs at place p of the buffer o: the buffer m, and the place behind what was stored
abbrev pub Stored : List ℕ → ℕ → List ℕ → List ℕ → ℕ → Type 0
Stored o p xs m q = (m ≡ sets o p xs) × (q ≡ min (p + length xs) (length o))

-- the lent buffer bytes, with the next text to be stored at this place
abbrev pub out_at : MutBor (List ℕ) → ℕ → Out
out_at bytes place = record { bytes = bytes; place = place }

-- after the text xs is stored, the Out a is the Out b
pub record Put (a : Out) (xs : List ℕ) (b : Out) : Type 0 where
  -- behind what was stored before
  pub stored : Stored a.bytes.now a.place xs b.bytes.now b.place
  -- into the same buffer, which its lender gets back so
  pub same : b.bytes.ghost_name ≡ a.bytes.ghost_name
