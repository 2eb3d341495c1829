-- Calls as bytes.
use Rattle.std.specs.Prelude.{ℕ, ◌+◌, List, [], ◌∷◌, Bool, true, ltb}
use Rattle.state.specs.declared.Call.{Call}
use Rattle.labels.specs.Decisions.{at, ◌and◌}

-- the call that begins at byte i
abbrev pub call_from : List ℕ → ℕ → Call
call_from l i = record { request = at l i; process = at l (i + 1); target = at l (i + 2); extra = at l (i + 3) }

-- the bytes of calls
unfoldable pub call_bytes : List Call → List ℕ
call_bytes [] = []
call_bytes (c ∷ cs) = c.request ∷ c.process ∷ c.target ∷ c.extra ∷ call_bytes cs

-- every element is a byte
unfoldable pub all_bytes : List ℕ → Bool
all_bytes [] = true
all_bytes (b ∷ bs) = ltb b 256 and all_bytes bs
