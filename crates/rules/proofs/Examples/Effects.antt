-- "Effects when enforced": what each accepted request leaves of processes, objects and opens.
use Rattle.std.specs.Prelude.{ℕ, ◌≡◌, refl, List, [], ◌∷◌, ◌++◌, map, replicate}
use Rattle.state.specs.State.{put_process, put_user, put_object, opened, blank}
use Rattle.opens.specs.Opens.{close_object, close_process, copy_process}
use Rattle.rules.specs.Types.{Call, Object, Facility}
use Rattle.rules.specs.Computed.{everything, call, switches, user, object, process_bytes, object_bytes, open_bytes, counts, level}
use Rattle.rules.specs.Setup.{fresh}
use Rattle.rules.specs.Calls.{after}
use Rattle.rules.specs.Histories.{run}

-- Users 0 of clearance 9 and 1 trusted of clearance 9; file 0 of level 3, file 1 of level 3, directory 2 of level 4, category security and data type
-- security information, channel 3 of level 3, control data 4 of level 3.
abbrev five_objects : ℕ → Facility
five_objects mac =
    fresh
    (switches mac 0 0 ++ user 9 0 0 ++ user 9 0 1
    ++ object 0 3 0 0 ++ object 0 3 0 0 ++ object 1 4 1 1 ++ object 2 3 0 0 ++ object 3 3 0 0)

-- after these calls, MAC on: of process 0, of process 1, and the opens of each on the first four objects
abbrev of0 : List Call → List ℕ
of0 cs = process_bytes (run (five_objects 1) cs) 0

abbrev of1 : List Call → List ℕ
of1 cs = process_bytes (run (five_objects 1) cs) 1

abbrev opens0 : List Call → List ℕ
opens0 cs = open_bytes (run (five_objects 1) cs) 0 4

abbrev opens1 : List Call → List ℕ
opens1 cs = open_bytes (run (five_objects 1) cs) 1 4

-- process 0 of user 0, and of user 1, who is trusted
abbrev login : Call
login = call 21 0 0 0

abbrev trusted_login : Call
trusted_login = call 21 0 0 1

-- "opens add their modes, close drops both"
pub opens_and_close :
    opens0 (login ∷ call 13 0 0 0 ∷ []) ∷ opens0 (login ∷ call 20 0 0 0 ∷ []) ∷ opens0 (login ∷ call 14 0 0 0 ∷ [])
    ∷ opens0 (login ∷ call 13 0 0 0 ∷ call 20 0 0 0 ∷ []) ∷ opens0 (login ∷ call 20 0 0 0 ∷ call 13 0 1 0 ∷ [])
    -- read and write leave them; close drops those of this process on this object
    ∷ opens0 (login ∷ call 14 0 0 0 ∷ call 12 0 0 0 ∷ call 19 0 0 0 ∷ [])
    ∷ opens0 (login ∷ call 14 0 0 0 ∷ call 13 0 1 0 ∷ call 3 0 0 0 ∷ [])
    ∷ opens1 (login ∷ call 13 0 0 0 ∷ call 21 1 0 0 ∷ call 13 1 0 0 ∷ call 3 0 0 0 ∷ [])
    -- execute, delete-data and a refused open add none
    ∷ opens0 (login ∷ call 7 0 0 0 ∷ call 6 0 0 0 ∷ call 13 0 2 0 ∷ [])
    ∷ []
    ≡ (1 ∷ 0 ∷ 0 ∷ 0 ∷ []) ∷ (2 ∷ 0 ∷ 0 ∷ 0 ∷ []) ∷ (3 ∷ 0 ∷ 0 ∷ 0 ∷ [])
    ∷ (3 ∷ 0 ∷ 0 ∷ 0 ∷ []) ∷ (2 ∷ 1 ∷ 0 ∷ 0 ∷ [])
    ∷ (3 ∷ 0 ∷ 0 ∷ 0 ∷ []) ∷ (0 ∷ 1 ∷ 0 ∷ 0 ∷ []) ∷ (1 ∷ 0 ∷ 0 ∷ 0 ∷ [])
    ∷ (0 ∷ 0 ∷ 0 ∷ 0 ∷ [])
    ∷ []
unfolding everything
opens_and_close = refl

-- MAC on, user 0 of clearance 9, files 0 and 1 of level 3; process 0, automatic off, has 0 open both ways and 1 for reading.
abbrev file : Object
file = record { live = 1; kind = 0; label = level 3; category = 0; datatype = 0; flags = 0; parent = 0 }

abbrev one : Facility
one =
    opened (opened (put_process (put_object (put_object (put_user (blank (record { mac = 1; fc = 0; sim = 0; ff = 0 }))
    (record { clearance = level 9; role = 0; trusted = 0 })) file) file) 0
    (record { running = 1; owner = 0; current = level 3; readmark = level 2; writemark = level 7; automatic = 0; moves = 0 })) 0 0 3) 0 1 1

-- and process 1 of user 0 has 0 open for reading and 1 for writing
abbrev two : Facility
two =
    opened (opened (put_process one 1
    (record { running = 1; owner = 0; current = level 3; readmark = level 1; writemark = level 8; automatic = 1; moves = 0 })) 1 0 1) 1 1 2

-- of a facility: processes 0 and 1, and objects 0 and 1
abbrev two_of_each : Facility → List (List ℕ)
two_of_each f = process_bytes f 0 ∷ process_bytes f 1 ∷ object_bytes f 0 ∷ object_bytes f 1 ∷ []

-- "delete drops the object and all opens on it", at other processes too (`deleted_opens`)
pub delete_effect :
    (two_of_each (after two (call 5 0 0 0))
    ≡ (1 ∷ 0 ∷ 3 ∷ 2 ∷ 3 ∷ 0 ∷ []) ∷ (1 ∷ 0 ∷ 3 ∷ 1 ∷ 8 ∷ 1 ∷ []) ∷ (0 ∷ 0 ∷ 3 ∷ 0 ∷ 0 ∷ []) ∷ (1 ∷ 0 ∷ 3 ∷ 0 ∷ 0 ∷ []) ∷ [])
    × ((after two (call 5 0 0 0)).opens ≡ close_object two.opens 0)
    × ((after two (call 5 0 1 0)).opens ≡ close_object two.opens 1)
unfolding everything
delete_effect = (refl, refl, refl)

-- the object 4 that was deleted, the object 5 created after it, and the counts: no number is given again
abbrev four_and_five : Facility → List (List ℕ)
four_and_five f = object_bytes f 4 ∷ object_bytes f 5 ∷ counts f ∷ []

pub deleted_number :
    four_and_five (run (five_objects 1) (login ∷ call 5 0 4 0 ∷ call 4 0 0 2 ∷ []))
    ≡ (0 ∷ 3 ∷ 3 ∷ 0 ∷ 0 ∷ []) ∷ (1 ∷ 2 ∷ 3 ∷ 0 ∷ 0 ∷ []) ∷ (1 ∷ 0 ∷ 0 ∷ 2 ∷ 6 ∷ 0 ∷ []) ∷ []
unfolding everything
deleted_number = refl

-- "clone copies owner, levels, marks, flag and opens" (`copied_opens`); the parent keeps its own
pub clone_effect :
    (two_of_each (after one (call 2 0 1 0))
    ≡ (1 ∷ 0 ∷ 3 ∷ 2 ∷ 7 ∷ 0 ∷ []) ∷ (1 ∷ 0 ∷ 3 ∷ 2 ∷ 7 ∷ 0 ∷ []) ∷ (1 ∷ 0 ∷ 3 ∷ 0 ∷ 0 ∷ []) ∷ (1 ∷ 0 ∷ 3 ∷ 0 ∷ 0 ∷ []) ∷ [])
    × ((after one (call 2 0 1 0)).opens ≡ copy_process one.opens 0 1)
    × ((after two (call 2 1 31 0)).opens ≡ copy_process two.opens 1 31)
unfolding everything
clone_effect = (refl, refl, refl)

-- owner, levels, marks and flag of clones of other processes
pub clone_levels :
    map of1
    ((login ∷ call 13 0 0 0 ∷ call 2 0 1 0 ∷ []) ∷ (login ∷ call 20 0 0 0 ∷ call 2 0 1 0 ∷ []) ∷ (login ∷ call 17 0 0 2 ∷ call 2 0 1 0 ∷ [])
    ∷ (trusted_login ∷ call 2 0 1 0 ∷ []) ∷ (login ∷ call 2 0 1 0 ∷ call 13 0 0 0 ∷ []) ∷ [])
    ≡ (1 ∷ 0 ∷ 3 ∷ 3 ∷ 15 ∷ 1 ∷ []) ∷ (1 ∷ 0 ∷ 3 ∷ 0 ∷ 3 ∷ 1 ∷ []) ∷ (1 ∷ 0 ∷ 2 ∷ 0 ∷ 15 ∷ 0 ∷ [])
    ∷ (1 ∷ 1 ∷ 0 ∷ 0 ∷ 15 ∷ 1 ∷ []) ∷ (1 ∷ 0 ∷ 0 ∷ 0 ∷ 15 ∷ 1 ∷ []) ∷ []
unfolding everything
clone_levels = refl

-- "terminate drops them" (`terminated_opens`): the process's own, no other's
pub terminate_effect :
    (two_of_each (after two (call 18 0 1 0)) ∷ two_of_each (after two (call 18 1 0 0)) ∷ []
    ≡ (replicate 6 0 ∷ (1 ∷ 0 ∷ 3 ∷ 1 ∷ 8 ∷ 1 ∷ []) ∷ (1 ∷ 0 ∷ 3 ∷ 0 ∷ 0 ∷ []) ∷ (1 ∷ 0 ∷ 3 ∷ 0 ∷ 0 ∷ []) ∷ [])
    ∷ ((1 ∷ 0 ∷ 3 ∷ 2 ∷ 7 ∷ 0 ∷ []) ∷ replicate 6 0 ∷ (1 ∷ 0 ∷ 3 ∷ 0 ∷ 0 ∷ []) ∷ (1 ∷ 0 ∷ 3 ∷ 0 ∷ 0 ∷ []) ∷ [])
    ∷ [])
    × ((after two (call 18 0 1 0)).opens ≡ close_process two.opens 0)
    × ((after two (call 18 1 0 0)).opens ≡ close_process two.opens 1)
unfolding everything
terminate_effect = (refl, refl, refl)

-- "Login: current 0, read mark 0, write mark 15, automatic on"
pub login_effect :
    of0 (login ∷ []) ∷ of0 (trusted_login ∷ []) ∷ of1 (login ∷ []) ∷ []
    ≡ (1 ∷ 0 ∷ 0 ∷ 0 ∷ 15 ∷ 1 ∷ []) ∷ (1 ∷ 1 ∷ 0 ∷ 0 ∷ 15 ∷ 1 ∷ []) ∷ replicate 6 0 ∷ []
unfolding everything
login_effect = refl

-- the move of each class, by each request that has it
pub moves_enforced :
    -- R: execute, read-open, read and search of a directory, get-permissions-data, get-status-data
    map (λ c. of0 (login ∷ c ∷ []))
    (call 7 0 0 0 ∷ call 13 0 0 0 ∷ call 12 0 2 0 ∷ call 15 0 2 0 ∷ call 8 0 4 0 ∷ call 9 0 4 0 ∷ [])
    -- W: delete, delete-data, write-open, write of a directory, alter, change-owner, modify-access-data, modify-permissions-data
    ∷ map (λ c. of0 (login ∷ c ∷ []))
    (call 5 0 0 0 ∷ call 6 0 0 0 ∷ call 20 0 0 0 ∷ call 19 0 2 0 ∷ call 0 0 3 0 ∷ call 1 0 4 0 ∷ call 10 0 4 0 ∷ call 11 0 4 0 ∷ [])
    -- B: read&write-open of a file and of a channel
    ∷ map (λ c. of0 (login ∷ c ∷ [])) (call 14 0 0 0 ∷ call 14 0 3 0 ∷ [])
    -- N: read, write and close, at another level than the object's
    ∷ map (λ c. of0 (login ∷ call 13 0 0 0 ∷ call 20 0 0 0 ∷ c ∷ [])) (call 12 0 0 0 ∷ call 19 0 0 0 ∷ call 3 0 0 0 ∷ [])
    ∷ map (λ c. of0 (trusted_login ∷ call 14 0 0 0 ∷ c ∷ [])) (call 12 0 0 0 ∷ call 19 0 0 0 ∷ call 3 0 0 0 ∷ [])
    -- refused: nothing
    ∷ map (λ c. of0 (login ∷ call 13 0 2 0 ∷ call 12 0 2 0 ∷ c ∷ [])) (call 20 0 0 0 ∷ call 17 0 0 3 ∷ [])
    ∷ []
    ≡ ((1 ∷ 0 ∷ 3 ∷ 3 ∷ 15 ∷ 1 ∷ []) ∷ (1 ∷ 0 ∷ 3 ∷ 3 ∷ 15 ∷ 1 ∷ []) ∷ (1 ∷ 0 ∷ 4 ∷ 4 ∷ 15 ∷ 1 ∷ []) ∷ (1 ∷ 0 ∷ 4 ∷ 4 ∷ 15 ∷ 1 ∷ [])
    ∷ (1 ∷ 0 ∷ 3 ∷ 3 ∷ 15 ∷ 1 ∷ []) ∷ (1 ∷ 0 ∷ 3 ∷ 3 ∷ 15 ∷ 1 ∷ []) ∷ [])
    ∷ ((1 ∷ 0 ∷ 3 ∷ 0 ∷ 3 ∷ 1 ∷ []) ∷ (1 ∷ 0 ∷ 3 ∷ 0 ∷ 3 ∷ 1 ∷ []) ∷ (1 ∷ 0 ∷ 3 ∷ 0 ∷ 3 ∷ 1 ∷ []) ∷ (1 ∷ 0 ∷ 4 ∷ 0 ∷ 4 ∷ 1 ∷ [])
    ∷ (1 ∷ 0 ∷ 3 ∷ 0 ∷ 3 ∷ 1 ∷ []) ∷ (1 ∷ 0 ∷ 3 ∷ 0 ∷ 3 ∷ 1 ∷ []) ∷ (1 ∷ 0 ∷ 3 ∷ 0 ∷ 3 ∷ 1 ∷ []) ∷ (1 ∷ 0 ∷ 3 ∷ 0 ∷ 3 ∷ 1 ∷ []) ∷ [])
    ∷ ((1 ∷ 0 ∷ 3 ∷ 3 ∷ 3 ∷ 1 ∷ []) ∷ (1 ∷ 0 ∷ 3 ∷ 3 ∷ 3 ∷ 1 ∷ []) ∷ [])
    ∷ ((1 ∷ 0 ∷ 3 ∷ 3 ∷ 3 ∷ 1 ∷ []) ∷ (1 ∷ 0 ∷ 3 ∷ 3 ∷ 3 ∷ 1 ∷ []) ∷ (1 ∷ 0 ∷ 3 ∷ 3 ∷ 3 ∷ 1 ∷ []) ∷ [])
    ∷ ((1 ∷ 1 ∷ 0 ∷ 0 ∷ 15 ∷ 1 ∷ []) ∷ (1 ∷ 1 ∷ 0 ∷ 0 ∷ 15 ∷ 1 ∷ []) ∷ (1 ∷ 1 ∷ 0 ∷ 0 ∷ 15 ∷ 1 ∷ []) ∷ [])
    ∷ ((1 ∷ 0 ∷ 4 ∷ 4 ∷ 15 ∷ 1 ∷ []) ∷ (1 ∷ 0 ∷ 4 ∷ 4 ∷ 15 ∷ 1 ∷ []) ∷ [])
    ∷ []
unfolding everything
moves_enforced = refl

-- "Trusted owner: .. marks and current level untouched. Set-level follows the rule below"
pub trusted_effects :
    map (λ c. of0 (trusted_login ∷ c ∷ []))
    (call 13 0 0 0 ∷ call 20 0 0 0 ∷ call 14 0 3 0 ∷ call 5 0 0 0 ∷ call 4 0 2 0 ∷ call 17 0 0 5 ∷ [])
    ∷ (opens0 (trusted_login ∷ call 14 0 3 0 ∷ []) ∷ [])
    ∷ []
    ≡ ((1 ∷ 1 ∷ 0 ∷ 0 ∷ 15 ∷ 1 ∷ []) ∷ (1 ∷ 1 ∷ 0 ∷ 0 ∷ 15 ∷ 1 ∷ []) ∷ (1 ∷ 1 ∷ 0 ∷ 0 ∷ 15 ∷ 1 ∷ []) ∷ (1 ∷ 1 ∷ 0 ∷ 0 ∷ 15 ∷ 1 ∷ [])
    ∷ (1 ∷ 1 ∷ 0 ∷ 0 ∷ 15 ∷ 1 ∷ []) ∷ (1 ∷ 1 ∷ 5 ∷ 0 ∷ 15 ∷ 0 ∷ []) ∷ [])
    ∷ ((0 ∷ 0 ∷ 0 ∷ 3 ∷ []) ∷ [])
    ∷ []
unfolding everything
trusted_effects = refl

-- "With MAC off, no level, mark or automatic flag changes"; the opens do
pub mac_off_effects :
    map (λ c. process_bytes (run (five_objects 0) (login ∷ c ∷ [])) 0)
    (call 13 0 0 0 ∷ call 20 0 0 0 ∷ call 14 0 3 0 ∷ call 4 0 2 0 ∷ call 17 0 0 5 ∷ [])
    ∷ (open_bytes (run (five_objects 0) (login ∷ call 13 0 0 0 ∷ call 20 0 1 0 ∷ call 14 0 3 0 ∷ [])) 0 4
    ∷ object_bytes (run (five_objects 0) (login ∷ call 4 0 2 0 ∷ [])) 5 ∷ [])
    ∷ []
    ≡ ((1 ∷ 0 ∷ 0 ∷ 0 ∷ 15 ∷ 1 ∷ []) ∷ (1 ∷ 0 ∷ 0 ∷ 0 ∷ 15 ∷ 1 ∷ []) ∷ (1 ∷ 0 ∷ 0 ∷ 0 ∷ 15 ∷ 1 ∷ []) ∷ (1 ∷ 0 ∷ 0 ∷ 0 ∷ 15 ∷ 1 ∷ [])
    ∷ (1 ∷ 0 ∷ 0 ∷ 0 ∷ 15 ∷ 1 ∷ []) ∷ [])
    ∷ ((1 ∷ 2 ∷ 0 ∷ 3 ∷ []) ∷ (1 ∷ 0 ∷ 0 ∷ 0 ∷ 0 ∷ []) ∷ [])
    ∷ []
unfolding everything
mac_off_effects = refl

-- "current becomes e, automatic goes off for good": a later W at another level is refused, and set-level goes on
pub set_level_effect :
    of0 (login ∷ call 17 0 0 5 ∷ []) ∷ of0 (login ∷ call 17 0 0 5 ∷ call 17 0 0 3 ∷ []) ∷ of0 (login ∷ call 17 0 0 5 ∷ call 20 0 0 0 ∷ [])
    ∷ of0 (login ∷ call 17 0 0 5 ∷ call 13 0 0 0 ∷ []) ∷ of0 (login ∷ call 17 0 0 3 ∷ call 20 0 0 0 ∷ [])
    -- the caller's, and no other's
    ∷ of1 (login ∷ call 17 0 0 5 ∷ [])
    ∷ []
    ≡ (1 ∷ 0 ∷ 5 ∷ 0 ∷ 15 ∷ 0 ∷ []) ∷ (1 ∷ 0 ∷ 3 ∷ 0 ∷ 15 ∷ 0 ∷ []) ∷ (1 ∷ 0 ∷ 5 ∷ 0 ∷ 15 ∷ 0 ∷ [])
    ∷ (1 ∷ 0 ∷ 5 ∷ 3 ∷ 15 ∷ 0 ∷ []) ∷ (1 ∷ 0 ∷ 3 ∷ 0 ∷ 3 ∷ 0 ∷ [])
    ∷ replicate 6 0
    ∷ []
unfolding everything
set_level_effect = refl

-- the object 5 that is created by the last of these calls, and process 0 after it
abbrev created : List Call → List (List ℕ)
created cs = object_bytes (run (five_objects 1) cs) 5 ∷ of0 cs ∷ []

-- "an object of kind e, level the process's current one after its move, category general, data type none"
pub create_effect :
    -- in directory 2 of level 4, security in category and data type: a file, a directory
    created (login ∷ call 4 0 2 0 ∷ []) ∷ created (login ∷ call 4 0 2 1 ∷ [])
    -- a channel and control data, which no class applies to: no move, t not looked at
    ∷ created (login ∷ call 4 0 2 2 ∷ []) ∷ created (login ∷ call 4 0 2 3 ∷ [])
    ∷ created (login ∷ call 17 0 0 5 ∷ call 4 0 255 2 ∷ [])
    -- of a trusted owner: no move, so the process's current level
    ∷ created (trusted_login ∷ call 4 0 2 0 ∷ []) ∷ created (trusted_login ∷ call 17 0 0 5 ∷ call 4 0 2 0 ∷ [])
    -- one number more is entered, and not more at a refused create
    ∷ (counts (run (five_objects 1) (login ∷ call 4 0 2 0 ∷ [])) ∷ counts (run (five_objects 1) (login ∷ call 13 0 0 0 ∷ call 4 0 0 0 ∷ [])) ∷ [])
    ∷ []
    ≡ ((1 ∷ 0 ∷ 4 ∷ 0 ∷ 0 ∷ []) ∷ (1 ∷ 0 ∷ 4 ∷ 0 ∷ 4 ∷ 1 ∷ []) ∷ []) ∷ ((1 ∷ 1 ∷ 4 ∷ 0 ∷ 0 ∷ []) ∷ (1 ∷ 0 ∷ 4 ∷ 0 ∷ 4 ∷ 1 ∷ []) ∷ [])
    ∷ ((1 ∷ 2 ∷ 0 ∷ 0 ∷ 0 ∷ []) ∷ (1 ∷ 0 ∷ 0 ∷ 0 ∷ 15 ∷ 1 ∷ []) ∷ []) ∷ ((1 ∷ 3 ∷ 0 ∷ 0 ∷ 0 ∷ []) ∷ (1 ∷ 0 ∷ 0 ∷ 0 ∷ 15 ∷ 1 ∷ []) ∷ [])
    ∷ ((1 ∷ 2 ∷ 5 ∷ 0 ∷ 0 ∷ []) ∷ (1 ∷ 0 ∷ 5 ∷ 0 ∷ 15 ∷ 0 ∷ []) ∷ [])
    ∷ ((1 ∷ 0 ∷ 0 ∷ 0 ∷ 0 ∷ []) ∷ (1 ∷ 1 ∷ 0 ∷ 0 ∷ 15 ∷ 1 ∷ []) ∷ []) ∷ ((1 ∷ 0 ∷ 5 ∷ 0 ∷ 0 ∷ []) ∷ (1 ∷ 1 ∷ 5 ∷ 0 ∷ 15 ∷ 0 ∷ []) ∷ [])
    ∷ ((1 ∷ 0 ∷ 0 ∷ 2 ∷ 6 ∷ 0 ∷ []) ∷ (1 ∷ 0 ∷ 0 ∷ 2 ∷ 5 ∷ 0 ∷ []) ∷ [])
    ∷ []
unfolding everything
create_effect = refl
