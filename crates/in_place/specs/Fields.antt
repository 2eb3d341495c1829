-- What the bytes of a facility are, and that what `Becomes` promises fixes each of them.
use Rattle.std.specs.Prelude.{ℕ, ◌<◌, List, ◌≡◌, length}
use Rattle.in_place.specs.Layout.{whole_size}
use Rattle.labels.specs.Decisions.{at}
use Rattle.state.specs.declared.Facility.{Facility}
use Rattle.in_place.specs.Stores.{Becomes}

-- the bytes of a facility: as many as the struct has, each below 256
pub record Bytes (m : List ℕ) : Type 0 where
  pub long : length m ≡ whole_size
  pub below : (i : ℕ) → at m i < 256

-- What `Becomes` promises fixes every byte: bytes of the same facility with the same padding are the same bytes.
abbrev pub BecomesUnique : Type 0
BecomesUnique = (s m n : List ℕ) (f : Facility) → Bytes m → Bytes n → Becomes s m f → Becomes s n f → m ≡ n
