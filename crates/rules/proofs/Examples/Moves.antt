-- Ticket 5: which calls are moves of a process, what number it carries after them, and the bound.
use Rattle.std.specs.Prelude.{ℕ, ◌≡◌, refl, List, [], ◌∷◌, ◌++◌, map}
use Rattle.labels.specs.Labels.{label}
use Rattle.state.specs.State.{process_of}
use Rattle.rules.specs.Types.{Call}
use Rattle.rules.specs.Computed.{everything, call, switches, user, object, level}
use Rattle.rules.specs.Setup.{fresh}
use Rattle.rules.specs.Histories.{run, past, moves_of, moves_bound}

-- users 0 of clearance 2, 1 trusted of clearance 2 and 2 of clearance 0; files 0, 1, 2 and 3 of these levels, directory 4 of level 1
abbrev shelf : ℕ → List ℕ
shelf mac =
    switches mac 0 0 ++ user 2 0 0 ++ user 2 0 1 ++ user 0 0 0
    ++ object 0 0 0 0 ++ object 0 1 0 0 ++ object 0 2 0 0 ++ object 0 3 0 0 ++ object 1 1 0 0

-- user u logs in as process p; process p opens file t for reading, for writing, for both
abbrev login : ℕ → ℕ → Call
login p u = call 21 p 0 u

abbrev reads : ℕ → ℕ → Call
reads p t = call 13 p t 0

abbrev writes : ℕ → ℕ → Call
writes p t = call 20 p t 0

abbrev both : ℕ → ℕ → Call
both p t = call 14 p t 0

-- after a list of calls with MAC on: the number that process p carries, and the moves in its history
abbrev numbers : List Call → ℕ → List ℕ
numbers cs p = (process_of (run (fresh (shelf 1)) cs) p).moves ∷ moves_of (past (fresh (shelf 1)) cs []) p ∷ []

-- "starting at 0 at login"; "a change of current by R, W or B", create in a directory among the W
pub counted :
    numbers (login 0 0 ∷ []) 0 ∷ numbers (login 0 0 ∷ reads 0 1 ∷ []) 0 ∷ numbers (login 0 0 ∷ writes 0 1 ∷ []) 0
    ∷ numbers (login 0 0 ∷ both 0 1 ∷ []) 0 ∷ numbers (login 0 0 ∷ call 4 0 4 0 ∷ []) 0
    -- up, up, and down from there is one more than the clearance; the fourth would go up again and is refused
    ∷ numbers (login 0 0 ∷ reads 0 1 ∷ reads 0 2 ∷ []) 0
    ∷ numbers (login 0 0 ∷ reads 0 1 ∷ writes 0 2 ∷ writes 0 1 ∷ []) 0
    ∷ numbers (login 0 0 ∷ reads 0 1 ∷ writes 0 2 ∷ writes 0 1 ∷ reads 0 2 ∷ []) 0
    ∷ []
    ≡ (0 ∷ 0 ∷ []) ∷ (1 ∷ 1 ∷ []) ∷ (1 ∷ 1 ∷ [])
    ∷ (1 ∷ 1 ∷ []) ∷ (1 ∷ 1 ∷ [])
    ∷ (2 ∷ 2 ∷ []) ∷ (3 ∷ 3 ∷ []) ∷ (3 ∷ 3 ∷ [])
    ∷ []
unfolding everything
counted = refl

-- what is no move
pub not_counted :
    -- R, W and B that leave current where it is, though marks may move
    numbers (login 0 0 ∷ reads 0 0 ∷ []) 0 ∷ numbers (login 0 0 ∷ writes 0 0 ∷ []) 0 ∷ numbers (login 0 0 ∷ both 0 0 ∷ []) 0
    ∷ numbers (login 0 0 ∷ reads 0 2 ∷ reads 0 1 ∷ []) 0
    -- set-level
    ∷ numbers (login 0 0 ∷ call 17 0 0 2 ∷ []) 0
    -- a refused call
    ∷ numbers (login 0 0 ∷ reads 0 3 ∷ []) 0 ∷ numbers (login 0 2 ∷ reads 0 1 ∷ []) 0
    -- a trusted owner's
    ∷ numbers (login 0 1 ∷ reads 0 2 ∷ writes 0 1 ∷ []) 0
    -- another process's
    ∷ numbers (login 0 0 ∷ login 1 0 ∷ reads 1 2 ∷ []) 0
    ∷ []
    ≡ (0 ∷ 0 ∷ []) ∷ (0 ∷ 0 ∷ []) ∷ (0 ∷ 0 ∷ []) ∷ (1 ∷ 1 ∷ [])
    ∷ (0 ∷ 0 ∷ [])
    ∷ (0 ∷ 0 ∷ []) ∷ (0 ∷ 0 ∷ [])
    ∷ (0 ∷ 0 ∷ [])
    ∷ (0 ∷ 0 ∷ [])
    ∷ []
unfolding everything
not_counted = refl

-- a set-level and a signal leave the number that there is, the sender's and the receiver's
pub number_kept :
    numbers (login 0 0 ∷ reads 0 1 ∷ call 17 0 0 2 ∷ []) 0
    ∷ map (numbers (login 0 0 ∷ login 1 0 ∷ reads 0 1 ∷ writes 1 2 ∷ writes 1 1 ∷ call 16 0 1 0 ∷ [])) (0 ∷ 1 ∷ [])
    ≡ (1 ∷ 1 ∷ []) ∷ (1 ∷ 1 ∷ []) ∷ (2 ∷ 2 ∷ []) ∷ []
unfolding everything
number_kept = refl

-- create in a directory whose number is a kind, 2 or 3
pub moved_by_create :
    map (λ t. (let f = fresh (switches 1 0 0 ++ user 2 0 0 ++ object 1 1 0 0 ++ object 1 1 0 0 ++ object 1 1 0 0 ++ object 1 1 0 0) in
    let cs = login 0 0 ∷ call 4 0 t 0 ∷ [] in (process_of (run f cs) 0).moves ∷ moves_of (past f cs []) 0 ∷ [])) (1 ∷ 2 ∷ 3 ∷ [])
    ≡ (1 ∷ 1 ∷ []) ∷ (1 ∷ 1 ∷ []) ∷ (1 ∷ 1 ∷ []) ∷ []
unfolding everything
moved_by_create = refl

-- with MAC off
pub off_not_counted :
    (process_of (run (fresh (shelf 0)) (login 0 0 ∷ reads 0 2 ∷ [])) 0).moves ∷ moves_of (past (fresh (shelf 0)) (login 0 0 ∷ reads 0 2 ∷ []) []) 0 ∷ []
    ≡ 0 ∷ 0 ∷ []
unfolding everything
off_not_counted = refl

-- "copied by a clone", which goes on from there, as its parent does; a process that logs in where another was starts at 0
pub by_history :
    map (numbers (login 0 0 ∷ reads 0 1 ∷ call 2 0 1 0 ∷ [])) (0 ∷ 1 ∷ [])
    ∷ map (numbers (login 0 0 ∷ reads 0 1 ∷ call 2 0 1 0 ∷ reads 1 2 ∷ [])) (0 ∷ 1 ∷ [])
    ∷ map (numbers (login 0 0 ∷ reads 0 1 ∷ call 2 0 1 0 ∷ reads 0 2 ∷ writes 0 2 ∷ [])) (0 ∷ 1 ∷ [])
    -- a clone of a clone; the first process has terminated, and its number is another's
    ∷ map (numbers (login 0 0 ∷ reads 0 1 ∷ call 2 0 1 0 ∷ call 18 0 0 0 ∷ call 2 1 2 0 ∷ login 0 0 ∷ reads 2 2 ∷ [])) (0 ∷ 1 ∷ 2 ∷ [])
    -- 1 is cloned again from 0, which has moved meanwhile
    ∷ map (numbers (login 0 0 ∷ call 2 0 1 0 ∷ call 18 1 0 0 ∷ reads 0 1 ∷ call 2 0 1 0 ∷ [])) (0 ∷ 1 ∷ [])
    ∷ []
    ≡ ((1 ∷ 1 ∷ []) ∷ (1 ∷ 1 ∷ []) ∷ [])
    ∷ ((1 ∷ 1 ∷ []) ∷ (2 ∷ 2 ∷ []) ∷ [])
    ∷ ((2 ∷ 2 ∷ []) ∷ (1 ∷ 1 ∷ []) ∷ [])
    ∷ ((0 ∷ 0 ∷ []) ∷ (1 ∷ 1 ∷ []) ∷ (2 ∷ 2 ∷ []) ∷ [])
    ∷ ((1 ∷ 1 ∷ []) ∷ (1 ∷ 1 ∷ []) ∷ [])
    ∷ []
unfolding everything
by_history = refl

-- "clearance level plus its number of categories plus 1"
pub bound :
    map (λ n. moves_bound (level n)) (0 ∷ 1 ∷ 8 ∷ 15 ∷ []) ++ map (λ s. moves_bound (label 2 s)) (1 ∷ 3 ∷ 128 ∷ 255 ∷ [])
    ≡ 1 ∷ 2 ∷ 9 ∷ 16 ∷ 4 ∷ 5 ∷ 4 ∷ 11 ∷ []
unfolding everything
bound = refl
