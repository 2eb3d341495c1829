-- Texts stored one behind the other are one text stored.
use Rattle.std.specs.Prelude.{ℕ, List, [], ◌∷◌, ◌++◌}
use Rattle.text.specs.Stored.{Stored}
use Rattle.text.specs.Laws.Stored.{then}

-- the texts ts, stored one behind the other from place p of the buffer o on
infixr 20 ◌▸◌
pub data Stores : List ℕ → ℕ → List (List ℕ) → List ℕ → ℕ → Type 0 where
  end : {o : List ℕ} {p : ℕ} → Stores o p [] o p
  ◌▸◌ : {o l m t : List ℕ} {p q r : ℕ} {ts : List (List ℕ)} → Stored o p t l q → Stores l q ts m r → Stores o p (t ∷ ts) m r

abbrev pub joined : List ℕ → List (List ℕ) → List ℕ
joined t [] = t
joined t (u ∷ us) = joined (t ++ u) us

from : (o l m t : List ℕ) (p q r : ℕ) (ts : List (List ℕ)) → Stored o p t l q → Stores l q ts m r → Stored o p (joined t ts) m r
from o l m t p q r [] s end = s
from o l m t p q r (u ∷ us) s (n ▸ rest) = from o _ m (t ++ u) p _ r us (then o l _ p q _ t u s n) rest

pub stores : (o : List ℕ) (p : ℕ) (t : List ℕ) (ts : List (List ℕ)) {m : List ℕ} {r : ℕ} → Stores o p (t ∷ ts) m r → Stored o p (joined t ts) m r
stores o p t ts (s ▸ rest) = from o _ _ t p _ _ ts s rest
