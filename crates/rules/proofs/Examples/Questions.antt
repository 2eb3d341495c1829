-- "Questions in order": each question on both sides of its boundary, and their order.
use Rattle.std.specs.Prelude.{ℕ, ◌≡◌, refl, List, [], ◌∷◌, ◌++◌}
use Rattle.rules.specs.Types.{Call}
use Rattle.rules.specs.Computed.{everything, numbers_from, call, switches, user, object}
use Rattle.rules.specs.Setup.{fresh}
use Rattle.rules.proofs.Examples.SetupRecords.{files_of_level0}

-- MAC on alone, users 0 of clearance 15 and 1 of clearance 1; file 0, directory 1, channel 2, control data 3, file 4 of level 2, files
abbrev office : ℕ → List ℕ
office n =
    switches 1 0 0 ++ user 15 0 0 ++ user 1 0 0 ++ object 0 0 0 0 ++ object 1 0 0 0 ++ object 2 0 0 0 ++ object 3 0 0 0
    ++ object 0 2 0 0 ++ files_of_level0 n

abbrev numbers_in : ℕ → List Call → List ℕ
numbers_in n cs = numbers_from (fresh (office n)) cs

-- each question on both sides of its boundary
pub boundaries :
    -- 1: requests up to 21; 2: processes up to 31, also as targets of clone and send-signal
    numbers_in 0
    (call 21 31 0 0 ∷ call 22 0 0 0 ∷ call 21 32 0 0 ∷ call 2 31 32 0 ∷ call 16 31 32 0 ∷ call 2 31 30 0 ∷ call 16 31 30 0 ∷ [])
    -- 3: the caller, and the receiver of a signal, run; 4: the new number is free, so a clone onto itself is refused; 5: the user is one
    ∷ numbers_in 0 (call 18 0 0 0 ∷ call 21 0 0 2 ∷ call 21 0 0 1 ∷ call 16 0 1 0 ∷ call 21 0 0 1 ∷ call 2 0 0 0 ∷ [])
    -- 6: the object is entered and live; 7: its kind has the request; 8: the kind to be created is 0..3
    ∷ numbers_in 0
    (call 21 0 0 0 ∷ call 13 0 5 0 ∷ call 13 0 128 0 ∷ call 5 0 0 0 ∷ call 13 0 0 0 ∷ call 13 0 1 0 ∷ call 4 0 1 3 ∷ call 4 0 1 4 ∷ [])
    -- 9: open in that mode by this process; close in any
    ∷ numbers_in 0 (call 21 0 0 0 ∷ call 13 0 0 0 ∷ call 12 0 0 0 ∷ call 19 0 0 0 ∷ call 3 0 0 0 ∷ call 12 0 0 0 ∷ call 3 0 0 0 ∷ [])
    ∷ numbers_in 0 (call 21 0 0 0 ∷ call 20 0 0 0 ∷ call 19 0 0 0 ∷ call 12 0 0 0 ∷ call 21 1 0 0 ∷ call 19 1 0 0 ∷ [])
    -- 10: the 128th object is accepted, the 129th is not
    ∷ numbers_in 122 (call 21 0 0 0 ∷ call 4 0 1 0 ∷ call 4 0 1 0 ∷ call 4 0 0 2 ∷ [])
    -- 11: levels up to 15; 12: the clearance
    ∷ numbers_in 0 (call 21 0 0 0 ∷ call 17 0 0 15 ∷ call 17 0 0 16 ∷ call 21 1 0 1 ∷ call 17 1 0 1 ∷ call 17 1 0 2 ∷ [])
    ∷ []
    ≡ (0 ∷ 1 ∷ 2 ∷ 2 ∷ 2 ∷ 0 ∷ 0 ∷ [])
    ∷ (3 ∷ 5 ∷ 0 ∷ 3 ∷ 4 ∷ 4 ∷ [])
    ∷ (0 ∷ 6 ∷ 6 ∷ 0 ∷ 6 ∷ 7 ∷ 0 ∷ 8 ∷ [])
    ∷ (0 ∷ 0 ∷ 0 ∷ 9 ∷ 0 ∷ 9 ∷ 9 ∷ [])
    ∷ (0 ∷ 0 ∷ 0 ∷ 9 ∷ 0 ∷ 9 ∷ [])
    ∷ (0 ∷ 0 ∷ 10 ∷ 10 ∷ [])
    ∷ (0 ∷ 0 ∷ 11 ∷ 0 ∷ 0 ∷ 12 ∷ [])
    ∷ []
unfolding everything numbers_from
boundaries = refl

-- where two questions are answered with no, the earlier one gives the number
pub order :
    -- 1 before 2, 2 before 3, 3 before 4, 4 before 5, 8 before 6, 6 before 7, 7 before 12, 9 before 12, 11 before 12
    numbers_in 0
    (call 22 32 0 0 ∷ call 18 32 0 0 ∷ call 21 0 0 1 ∷ call 2 1 0 0 ∷ call 21 0 0 2 ∷ call 4 0 9 4 ∷ call 13 0 9 0 ∷ call 4 0 4 0
    ∷ call 12 0 4 0 ∷ call 17 0 0 16 ∷ [])
    -- 6, 7 before 10, and 10 before 12
    ∷ numbers_in 123 (call 21 0 0 0 ∷ call 4 0 200 0 ∷ call 4 0 0 0 ∷ call 13 0 4 0 ∷ call 4 0 1 0 ∷ [])
    ∷ []
    ≡ (1 ∷ 2 ∷ 0 ∷ 3 ∷ 4 ∷ 8 ∷ 6 ∷ 7 ∷ 9 ∷ 11 ∷ []) ∷ (0 ∷ 6 ∷ 7 ∷ 0 ∷ 10 ∷ []) ∷ []
unfolding everything numbers_from
order = refl

-- what only some requests are asked
pub asked_of_some :
    -- login and terminate look at no target, so t may be any byte; of set-level it is the set, which MAC alone judges; a signal has a process
    numbers_in 0 (call 21 0 255 0 ∷ call 17 0 255 0 ∷ call 21 1 255 1 ∷ call 16 0 1 255 ∷ call 18 1 255 255 ∷ call 18 1 0 0 ∷ [])
    -- a clone's number is to be free, and its parent to run; the new process is no object
    ∷ numbers_in 0 (call 21 0 0 0 ∷ call 2 0 30 255 ∷ call 2 0 30 0 ∷ call 2 29 28 0 ∷ call 21 30 0 0 ∷ call 18 30 0 0 ∷ call 2 0 30 0 ∷ [])
    -- create with e 2 or 3: t is not looked at; with 0 or 1 it is a live directory
    ∷ numbers_in 0 (call 21 0 0 0 ∷ call 4 0 255 2 ∷ call 4 0 255 3 ∷ call 4 0 255 0 ∷ call 4 0 255 1 ∷ call 4 0 0 1 ∷ call 4 0 1 1 ∷ [])
    -- read and write of a directory need no open, of a channel they do
    ∷ numbers_in 0 (call 21 0 0 0 ∷ call 12 0 1 0 ∷ call 19 0 1 0 ∷ call 12 0 2 0 ∷ call 19 0 2 0 ∷ call 14 0 2 0 ∷ call 12 0 2 0 ∷ call 19 0 2 0 ∷ [])
    -- close: open in any mode
    ∷ numbers_in 0 (call 21 0 0 0 ∷ call 20 0 0 0 ∷ call 3 0 0 0 ∷ call 3 0 0 0 ∷ call 14 0 2 0 ∷ call 3 0 2 0 ∷ call 3 0 2 0 ∷ [])
    -- the extra byte of other requests may be any
    ∷ numbers_in 0 (call 21 0 0 0 ∷ call 13 0 0 255 ∷ call 12 0 0 16 ∷ call 1 0 3 255 ∷ call 0 0 2 255 ∷ [])
    ∷ []
    ≡ (0 ∷ 12 ∷ 0 ∷ 0 ∷ 0 ∷ 3 ∷ [])
    ∷ (0 ∷ 0 ∷ 4 ∷ 3 ∷ 4 ∷ 0 ∷ 0 ∷ [])
    ∷ (0 ∷ 0 ∷ 0 ∷ 6 ∷ 6 ∷ 7 ∷ 0 ∷ [])
    ∷ (0 ∷ 0 ∷ 0 ∷ 9 ∷ 9 ∷ 0 ∷ 0 ∷ 0 ∷ [])
    ∷ (0 ∷ 0 ∷ 0 ∷ 9 ∷ 0 ∷ 0 ∷ 9 ∷ [])
    ∷ (0 ∷ 0 ∷ 0 ∷ 0 ∷ 0 ∷ [])
    ∷ []
unfolding everything numbers_from
asked_of_some = refl

-- 12 where the combined answer is "not granted", 13 where it is "undefined": a level above the clearance, an unset level; neither with MAC off
pub denied :
    numbers_from (fresh (switches 1 0 0 ++ user 1 0 0 ++ object 0 2 0 0 ++ object 0 255 0 0)) (call 21 0 0 0 ∷ call 13 0 0 0 ∷ call 13 0 1 0 ∷ [])
    ∷ numbers_from (fresh (switches 0 0 0 ++ user 1 0 0 ++ object 0 2 0 0 ++ object 0 255 0 0)) (call 21 0 0 0 ∷ call 13 0 0 0 ∷ call 13 0 1 0 ∷ [])
    ∷ []
    ≡ (0 ∷ 12 ∷ 13 ∷ []) ∷ (0 ∷ 0 ∷ 0 ∷ []) ∷ []
unfolding everything numbers_from
denied = refl
