-- "Edges": those marked with a star, as one list in one statement.
use Rattle.std.specs.Prelude.{ℕ, ◌≡◌, refl, List, [], ◌∷◌, ◌++◌}
use Rattle.rules.specs.Types.{Answer, NotCared, Granted, NotGranted, Undefined, Call}
use Rattle.answers.specs.Answers.{combine}
use Rattle.rules.specs.Computed.{everything, combined_answers, call, switches, user, object}
use Rattle.rules.specs.Setup.{fresh}

-- MAC on alone, an untrusted user of clearance 2, file 0 of level 0, file 1 of level 1, file 2 of level 2, file 3 of level 3
abbrev pub yard : List ℕ
yard = switches 1 0 0 ++ user 2 0 0 ++ object 0 0 0 0 ++ object 0 1 0 0 ++ object 0 2 0 0 ++ object 0 3 0 0

-- calls by process 0
abbrev pub login : Call
login = call 21 0 0 0

abbrev pub read_open : ℕ → Call
read_open t = call 13 0 t 0

abbrev pub read : ℕ → Call
read t = call 12 0 t 0

abbrev pub write_open : ℕ → Call
write_open t = call 20 0 t 0

abbrev pub set_level_to : ℕ → Call
set_level_to e = call 17 0 0 e

-- process 1 becomes a clone of process 0, and write-opens file 1
abbrev pub clone : Call
clone = call 2 0 1 0

abbrev pub clone_write_open : ℕ → Call
clone_write_open t = call 20 1 t 0

-- the combined answer of each call of a list in the yard
abbrev pub in_yard : List Call → List Answer
in_yard cs = combined_answers (fresh yard) cs

pub edges :
    -- clearance 2, fresh process: read-open of level 2 granted
    in_yard (login ∷ read_open 2 ∷ [])
    -- of level 3 not
    ∷ in_yard (login ∷ read_open 3 ∷ [])
    -- after reading 2: write-open of 1 not granted
    ∷ in_yard (login ∷ read_open 2 ∷ read 2 ∷ write_open 1 ∷ [])
    -- of 2 granted
    ∷ in_yard (login ∷ read_open 2 ∷ read 2 ∷ write_open 2 ∷ [])
    -- after write-open of 1: read-open of 2 not granted
    ∷ in_yard (login ∷ write_open 1 ∷ read_open 2 ∷ [])
    -- of 1 granted
    ∷ in_yard (login ∷ write_open 1 ∷ read_open 1 ∷ [])
    -- set-level to the current level, then write-open one higher: not granted
    ∷ in_yard (login ∷ set_level_to 0 ∷ write_open 1 ∷ [])
    -- undefined with not granted is undefined
    ∷ (combine Undefined NotGranted ∷ [])
    -- not cared with granted is granted
    ∷ (combine NotCared Granted ∷ [])
    -- a clone of a process that read 2 may not write-open 1
    ∷ in_yard (login ∷ read_open 2 ∷ read 2 ∷ clone ∷ clone_write_open 1 ∷ [])
    ∷ []
    ≡ (Granted ∷ Granted ∷ [])
    ∷ (Granted ∷ NotGranted ∷ [])
    ∷ (Granted ∷ Granted ∷ Granted ∷ NotGranted ∷ [])
    ∷ (Granted ∷ Granted ∷ Granted ∷ Granted ∷ [])
    ∷ (Granted ∷ Granted ∷ NotGranted ∷ [])
    ∷ (Granted ∷ Granted ∷ Granted ∷ [])
    ∷ (Granted ∷ Granted ∷ NotGranted ∷ [])
    ∷ (Undefined ∷ [])
    ∷ (Granted ∷ [])
    ∷ (Granted ∷ Granted ∷ Granted ∷ Granted ∷ NotGranted ∷ [])
    ∷ []
unfolding everything combined_answers
edges = refl
