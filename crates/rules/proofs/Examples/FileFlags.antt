-- Ticket 2, "File flags": what each flag forbids, what is inherited, asked of a set-up, created and written out.
use Rattle.std.specs.Prelude.{ℕ, ◌≡◌, refl, List, [], ◌∷◌, ◌++◌, map, eqb, replicate}
use Rattle.labels.specs.Decisions.{◌or◌}
use Rattle.answers.specs.Answers.{code}
use Rattle.answers.specs.Outcomes.{answers_of, number_of, not_cared}
use Rattle.state.specs.State.{objects_in, drop_object}
use Rattle.rules.specs.Types.{Call, Facility}
use Rattle.rules.specs.Requests.{class_of}
use Rattle.rules.specs.FileFlags.{has, effective, forbidding, forbids, flag_source}
use Rattle.rules.specs.Setup.{fresh, listed, live_objects, setup_bytes}
use Rattle.rules.specs.Calls.{query}
use Rattle.rules.specs.Histories.{run}
use Rattle.rules.specs.Computed.{everything, call, switches_with, user, flagged_object, numbers_below, flag_bytes, numbers_from}
use Rattle.rules.proofs.Examples.SetupRecords.{number_and_index}

-- the requests, of 0 to 21, that flags forbid on a file, a directory, a channel and control data
abbrev forbidden : ℕ → ℕ → List ℕ
forbidden v kind = listed 22 (λ r. forbids v r (class_of r kind) kind) (λ r. r)

abbrev forbidden_by : ℕ → List (List ℕ)
forbidden_by v = map (forbidden v) (0 ∷ 1 ∷ 2 ∷ 3 ∷ [])

-- "Read-only forbids W, B and write, no-execute execute, no-delete delete, search-only every request on a directory but search"
pub flags_forbid :
    forbidden_by 1 ∷ forbidden_by 2 ∷ forbidden_by 4 ∷ forbidden_by 8 ∷ forbidden_by 128 ∷ forbidden_by 0 ∷ []
    ≡ ((5 ∷ 6 ∷ 14 ∷ 19 ∷ 20 ∷ []) ∷ (4 ∷ 5 ∷ 19 ∷ []) ∷ (0 ∷ 5 ∷ 14 ∷ 19 ∷ []) ∷ (1 ∷ 5 ∷ 10 ∷ 11 ∷ 19 ∷ []) ∷ [])
    ∷ replicate 4 (7 ∷ [])
    ∷ replicate 4 (5 ∷ [])
    ∷ ([] ∷ (numbers_below 15 ++ (16 ∷ 17 ∷ 18 ∷ 19 ∷ 20 ∷ 21 ∷ [])) ∷ [] ∷ [] ∷ [])
    ∷ replicate 4 []
    ∷ replicate 4 []
    ∷ []
unfolding everything
flags_forbid = refl

-- two flags forbid what either does; add-inherited adds nothing
pub flags_together :
    map (λ v. forbidden v 0) (3 ∷ 6 ∷ 131 ∷ 143 ∷ []) ∷ map (λ v. forbidden v 1) (5 ∷ 134 ∷ []) ∷ []
    ≡ ((5 ∷ 6 ∷ 7 ∷ 14 ∷ 19 ∷ 20 ∷ []) ∷ (5 ∷ 7 ∷ []) ∷ (5 ∷ 6 ∷ 7 ∷ 14 ∷ 19 ∷ 20 ∷ []) ∷ (5 ∷ 6 ∷ 7 ∷ 14 ∷ 19 ∷ 20 ∷ []) ∷ [])
    ∷ ((4 ∷ 5 ∷ 19 ∷ []) ∷ (5 ∷ 7 ∷ []) ∷ [])
    ∷ []
unfolding everything
flags_together = refl

-- the flag that forbids: delete, execute and write-open of a file, delete of a directory and create in it
pub flags_told :
    map (λ v. forbidding v 5 (class_of 5 0) 0 ∷ forbidding v 7 (class_of 7 0) 0 ∷ forbidding v 20 (class_of 20 0) 0
    ∷ forbidding v 5 (class_of 5 1) 1 ∷ forbidding v 4 (class_of 4 1) 1 ∷ []) (0 ∷ 1 ∷ 2 ∷ 4 ∷ 8 ∷ 12 ∷ 14 ∷ 15 ∷ 128 ∷ [])
    ≡ (0 ∷ 0 ∷ 0 ∷ 0 ∷ 0 ∷ []) ∷ (1 ∷ 0 ∷ 1 ∷ 1 ∷ 1 ∷ []) ∷ (0 ∷ 2 ∷ 0 ∷ 0 ∷ 0 ∷ []) ∷ (4 ∷ 0 ∷ 0 ∷ 4 ∷ 0 ∷ []) ∷ (0 ∷ 0 ∷ 0 ∷ 8 ∷ 8 ∷ [])
    ∷ (4 ∷ 0 ∷ 0 ∷ 4 ∷ 8 ∷ []) ∷ (4 ∷ 2 ∷ 0 ∷ 4 ∷ 8 ∷ []) ∷ (1 ∷ 2 ∷ 1 ∷ 1 ∷ 1 ∷ []) ∷ (0 ∷ 0 ∷ 0 ∷ 0 ∷ 0 ∷ [])
    ∷ []
unfolding everything
flags_told = refl

-- each flag is its own bit
pub flags_apart : map (λ m. map (has m) (1 ∷ 2 ∷ 4 ∷ 8 ∷ 128 ∷ 143 ∷ [])) (1 ∷ 2 ∷ 4 ∷ 8 ∷ 128 ∷ []) ≡ map (λ m. map (λ v. eqb m v or eqb v 143)
    (1 ∷ 2 ∷ 4 ∷ 8 ∷ 128 ∷ 143 ∷ [])) (1 ∷ 2 ∷ 4 ∷ 8 ∷ 128 ∷ [])
unfolding everything
flags_apart = refl

-- Directory 0 with all flags but add-inherited; in it file 1 and directory 2 with add-inherited, file 3 without; in 2 file 4 with add-inherited and
-- no-delete, and channel 5 with add-inherited; file 6 with add-inherited and no parent.
abbrev tree : ℕ → ℕ → List ℕ
tree mac ff =
    switches_with mac ff ++ user 3 0 0 ++ flagged_object 1 0 15 0 ++ flagged_object 0 0 128 1 ++ flagged_object 1 0 128 1 ++ flagged_object 0 0 0 1
    ++ flagged_object 0 0 132 3 ++ flagged_object 2 0 128 3 ++ flagged_object 0 0 128 0

abbrev flags_in : Facility → List ℕ
flags_in f = map (effective (objects_in f)) (numbers_below 8)

-- "Effective flags are the own ones and, with 128, the parent's effective ones without no-delete"; "a deleted parent counts as none"
pub inherited :
    flags_in (fresh (tree 0 1)) ∷ flags_in (fresh (tree 1 0)) ∷ flags_in (drop_object (fresh (tree 0 1)) 0) ∷ flags_in (drop_object (fresh (tree 0 1)) 2) ∷ []
    ≡ (15 ∷ 139 ∷ 139 ∷ 0 ∷ 143 ∷ 139 ∷ 128 ∷ 0 ∷ []) ∷ (15 ∷ 139 ∷ 139 ∷ 0 ∷ 143 ∷ 139 ∷ 128 ∷ 0 ∷ [])
    ∷ (15 ∷ 128 ∷ 128 ∷ 0 ∷ 132 ∷ 128 ∷ 128 ∷ 0 ∷ []) ∷ (15 ∷ 139 ∷ 139 ∷ 0 ∷ 132 ∷ 128 ∷ 128 ∷ 0 ∷ [])
    ∷ []
unfolding everything
inherited = refl

-- where each of the flags 1, 2, 4, 8 and 128 comes from, of objects 0, 1, 3, 4 and 6
pub sources :
    map (λ t. map (flag_source (objects_in (fresh (tree 0 1))) t) (1 ∷ 2 ∷ 4 ∷ 8 ∷ 128 ∷ [])) (0 ∷ 1 ∷ 3 ∷ 4 ∷ 6 ∷ [])
    ≡ (0 ∷ 0 ∷ 0 ∷ 0 ∷ 255 ∷ []) ∷ (0 ∷ 0 ∷ 255 ∷ 0 ∷ 1 ∷ []) ∷ replicate 5 255 ∷ (0 ∷ 0 ∷ 4 ∷ 0 ∷ 4 ∷ []) ∷ (255 ∷ 255 ∷ 255 ∷ 255 ∷ 6 ∷ [])
    ∷ []
unfolding everything
sources = refl

-- FF's answer and the number of a call of process 0, which user 0 owns
abbrev answered : Facility → Call → List ℕ
answered f c = code (answers_of (query f c)).ff ∷ number_of (query f c) ∷ []

abbrev after21 : ℕ → ℕ → Facility
after21 mac ff = run (fresh (tree mac ff)) (call 21 0 0 0 ∷ [])

-- "A forbidden request is not granted; all else isn't cared about": in the whole, with FF on, and off
pub ff_answers :
    map (answered (after21 0 1))
    -- of directory 0, own flags: search, read, create in it, delete; of directory 2, inherited: search, write, delete
    (call 15 0 0 0 ∷ call 12 0 0 0 ∷ call 4 0 0 0 ∷ call 5 0 0 0 ∷ call 15 0 2 0 ∷ call 19 0 2 0 ∷ call 5 0 2 0
    -- of file 1: read-open, execute, write-open, both; of file 3, which does not inherit: write-open, delete
    ∷ call 13 0 1 0 ∷ call 7 0 1 0 ∷ call 20 0 1 0 ∷ call 14 0 1 0 ∷ call 20 0 3 0 ∷ call 5 0 3 0
    -- of channel 5: alter, both; of file 6: delete; without an object: create of a channel, set-level
    ∷ call 0 0 5 0 ∷ call 14 0 5 0 ∷ call 5 0 6 0 ∷ call 4 0 0 2 ∷ call 17 0 0 0
    -- refused before the modules are asked
    ∷ call 19 0 1 0 ∷ [])
    ∷ map (answered (after21 0 0)) (call 12 0 0 0 ∷ call 7 0 1 0 ∷ [])
    ∷ []
    ≡ ((0 ∷ 0 ∷ []) ∷ (2 ∷ 12 ∷ []) ∷ (2 ∷ 12 ∷ []) ∷ (2 ∷ 12 ∷ []) ∷ (0 ∷ 0 ∷ []) ∷ (2 ∷ 12 ∷ []) ∷ (2 ∷ 12 ∷ [])
    ∷ (0 ∷ 0 ∷ []) ∷ (2 ∷ 12 ∷ []) ∷ (2 ∷ 12 ∷ []) ∷ (2 ∷ 12 ∷ []) ∷ (0 ∷ 0 ∷ []) ∷ (0 ∷ 0 ∷ [])
    ∷ (2 ∷ 12 ∷ []) ∷ (2 ∷ 12 ∷ []) ∷ (0 ∷ 0 ∷ []) ∷ (0 ∷ 0 ∷ []) ∷ (0 ∷ 0 ∷ [])
    ∷ (0 ∷ 9 ∷ []) ∷ [])
    ∷ ((0 ∷ 0 ∷ []) ∷ (0 ∷ 0 ∷ []) ∷ [])
    ∷ []
unfolding everything
ff_answers = refl

-- FF beside MAC: MAC's yes and FF's no, and the other way round
pub ff_and_mac :
    map (λ c. code (answers_of (query (after21 1 1) c)).mac ∷ answered (after21 1 1) c)
    (call 13 0 1 0 ∷ call 20 0 1 0 ∷ []) ∷ (answered (after21 1 1) (call 12 0 9 0) ∷ (code not_cared.ff ∷ []) ∷ []) ∷ []
    ≡ ((1 ∷ 0 ∷ 0 ∷ []) ∷ (1 ∷ 2 ∷ 12 ∷ []) ∷ []) ∷ ((0 ∷ 6 ∷ []) ∷ (0 ∷ []) ∷ []) ∷ []
unfolding everything
ff_and_mac = refl

-- Directory 0 of level 0, without flags; FF on or off: file, directory, channel and control data created in it, and their flags and parents
abbrev made : ℕ → Facility
made ff =
    run (fresh (switches_with 0 ff ++ user 3 0 0 ++ flagged_object 0 0 0 0 ++ flagged_object 1 0 2 0))
    (call 21 0 0 0 ∷ call 4 0 1 0 ∷ call 4 0 1 1 ∷ call 4 0 1 2 ∷ call 4 0 1 3 ∷ [])

-- "A created file or directory gets its directory as parent and flag 128, other created objects neither"
pub created_flags :
    map (flag_bytes (made 1)) (numbers_below 7) ∷ map (flag_bytes (made 0)) (2 ∷ 3 ∷ 4 ∷ 5 ∷ []) ∷ (flags_in (made 1) ∷ [])
    ∷ (numbers_from (made 1) (call 7 0 2 0 ∷ call 4 0 3 0 ∷ call 7 0 6 0 ∷ call 5 0 1 0 ∷ call 7 0 2 0 ∷ call 7 0 6 0 ∷ []) ∷ [])
    ∷ []
    ≡ ((0 ∷ 0 ∷ []) ∷ (2 ∷ 0 ∷ []) ∷ (128 ∷ 2 ∷ []) ∷ (128 ∷ 2 ∷ []) ∷ (0 ∷ 0 ∷ []) ∷ (0 ∷ 0 ∷ []) ∷ (0 ∷ 0 ∷ []) ∷ [])
    ∷ ((128 ∷ 2 ∷ []) ∷ (128 ∷ 2 ∷ []) ∷ (0 ∷ 0 ∷ []) ∷ (0 ∷ 0 ∷ []) ∷ [])
    ∷ ((0 ∷ 2 ∷ 130 ∷ 130 ∷ 0 ∷ 0 ∷ 0 ∷ 0 ∷ []) ∷ [])
    -- execute of the created file is refused, and of one created further down; after the directory is deleted both are accepted
    ∷ ((12 ∷ 0 ∷ 12 ∷ 0 ∷ 0 ∷ 0 ∷ []) ∷ [])
    ∷ []
unfolding everything numbers_from
created_flags = refl

-- "19, the parent is no earlier directory, judged after 17 on the same record"
abbrev with_parents : List (List ℕ) → List ℕ
with_parents rs = number_and_index (switches_with 0 0 ++ user 0 0 0 ++ flagged_object 0 0 0 0 ++ flagged_object 1 0 0 0 ++ together rs)
  where
    together : List (List ℕ) → List ℕ
    together [] = []
    together (r ∷ rs) = r ++ together rs

pub parent_questions :
    map with_parents
    -- the directory 1; a file, itself, a later one, none of that number, for any kind of object
    ((flagged_object 0 0 0 2 ∷ []) ∷ (flagged_object 0 0 0 1 ∷ []) ∷ (flagged_object 1 0 0 3 ∷ []) ∷ (flagged_object 0 0 0 4 ∷ flagged_object 1 0 0 0 ∷ [])
    ∷ (flagged_object 0 0 0 129 ∷ []) ∷ (flagged_object 0 0 0 255 ∷ []) ∷ (flagged_object 2 0 0 1 ∷ []) ∷ (flagged_object 3 255 143 2 ∷ [])
    -- a byte that is not allowed is asked first, and all of one record before the next
    ∷ (flagged_object 0 0 16 1 ∷ []) ∷ (flagged_object 4 0 0 1 ∷ []) ∷ (flagged_object 0 0 0 2 ∷ flagged_object 0 0 0 1 ∷ [])
    ∷ (flagged_object 0 0 0 1 ∷ flagged_object 4 0 0 0 ∷ []) ∷ (flagged_object 0 0 0 1 ∷ user 0 0 0 ∷ [])
    -- a directory of the third record and a file in it
    ∷ (flagged_object 1 0 0 2 ∷ flagged_object 0 0 0 3 ∷ []) ∷ [])
    ≡ (0 ∷ 0 ∷ []) ∷ (19 ∷ 4 ∷ []) ∷ (19 ∷ 4 ∷ []) ∷ (19 ∷ 4 ∷ [])
    ∷ (19 ∷ 4 ∷ []) ∷ (19 ∷ 4 ∷ []) ∷ (19 ∷ 4 ∷ []) ∷ (0 ∷ 0 ∷ [])
    ∷ (17 ∷ 4 ∷ []) ∷ (17 ∷ 4 ∷ []) ∷ (19 ∷ 5 ∷ [])
    ∷ (19 ∷ 4 ∷ []) ∷ (19 ∷ 4 ∷ [])
    ∷ (0 ∷ 0 ∷ []) ∷ []
unfolding everything
parent_questions = refl

-- a user is no directory, though byte 1 is 1: the first object has no parent; nor is the object of the next number
pub no_directory_yet :
    number_and_index (switches_with 0 0 ++ user 1 0 0 ++ flagged_object 0 0 0 1)
    ∷ number_and_index (switches_with 0 0 ++ user 1 0 0 ++ flagged_object 1 0 0 0 ++ flagged_object 0 0 0 2) ∷ []
    ≡ (19 ∷ 2 ∷ []) ∷ (19 ∷ 3 ∷ []) ∷ []
unfolding everything
no_directory_yet = refl

-- the live objects, by their flags: all, without file 1, without directory 2
pub live_flags :
    map (λ f. map (λ o. o.flags) (live_objects f)) (fresh (tree 1 1) ∷ drop_object (fresh (tree 1 1)) 1 ∷ drop_object (fresh (tree 1 1)) 2 ∷ [])
    ≡ (15 ∷ 128 ∷ 128 ∷ 0 ∷ 132 ∷ 128 ∷ 128 ∷ []) ∷ (15 ∷ 128 ∷ 0 ∷ 132 ∷ 128 ∷ 128 ∷ []) ∷ (15 ∷ 128 ∷ 0 ∷ 132 ∷ 128 ∷ 128 ∷ []) ∷ []
unfolding everything
live_flags = refl

-- what a set-up with flags and parents holds, and "the writer puts out parents by their new numbers": as read, without file 1, without directory 2
pub parents_written :
    setup_bytes (fresh (tree 1 1)) ∷ setup_bytes (drop_object (fresh (tree 1 1)) 1) ∷ setup_bytes (drop_object (fresh (tree 1 1)) 2) ∷ []
    ≡ tree 1 1
    ∷ (switches_with 1 1 ++ user 3 0 0 ++ flagged_object 1 0 15 0 ++ flagged_object 1 0 128 1 ++ flagged_object 0 0 0 1
    ++ flagged_object 0 0 132 2 ++ flagged_object 2 0 128 2 ++ flagged_object 0 0 128 0)
    ∷ (switches_with 1 1 ++ user 3 0 0 ++ flagged_object 1 0 15 0 ++ flagged_object 0 0 128 1 ++ flagged_object 0 0 0 1
    ++ flagged_object 0 0 132 0 ++ flagged_object 2 0 128 0 ++ flagged_object 0 0 128 0)
    ∷ []
unfolding everything
parents_written = refl

pub fresh_flags :
    map (flag_bytes (fresh (tree 0 1))) (numbers_below 8) ∷ (((fresh (tree 0 1)).ff ∷ (fresh (tree 1 0)).ff ∷ []) ∷ []) ∷ []
    ≡ ((15 ∷ 0 ∷ []) ∷ (128 ∷ 1 ∷ []) ∷ (128 ∷ 1 ∷ []) ∷ (0 ∷ 1 ∷ []) ∷ (132 ∷ 3 ∷ []) ∷ (128 ∷ 3 ∷ []) ∷ (128 ∷ 0 ∷ []) ∷ (0 ∷ 0 ∷ []) ∷ [])
    ∷ ((1 ∷ 0 ∷ []) ∷ [])
    ∷ []
unfolding everything
fresh_flags = refl
