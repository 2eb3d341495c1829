-- "State": the blank facility, the fresh process, the counter's stop, the marks of opens, and each way in which a facility changes.
use Rattle.std.specs.Prelude.{ℕ, zero, suc, ◌≡◌, refl, true, false, List, [], ◌∷◌, ◌++◌, map, replicate}
use Rattle.labels.specs.Decisions.{at}
use Rattle.labels.specs.Labels.{label, leq, same, join, meet, given, lawful}
use Rattle.state.specs.State.{process_of, object_of, user_of, runs, live, is_user, trusted_user, label_of, clearance_of, is_automatic, put_process, put_user}
use Rattle.state.specs.State.{put_object, drop_object, put_refusals, add_user, add_object, counted, all_off, fresh_process, no_process, blank, cloned, opened}
use Rattle.state.specs.State.{closed, deleted, terminated}
use Rattle.rules.specs.Requests.{Keep, Add, Close, CloseAll}
use Rattle.opens.specs.Opens.{reading, writing, add_modes, marks_after, close_object, close_process, copy_process}
use Rattle.rules.specs.Types.{Switches, Process, User, Object, Facility}
use Rattle.rules.specs.Computed.{everything, user_bytes, object_bytes, process_bytes, open_bytes, counts, level, category_bytes}

-- levels are compared by number, the larger and the smaller of two, 255 is unset, 15 with all categories the last that a process may have
pub levels :
    (leq (level 1) (level 2) ∷ leq (level 2) (level 2) ∷ leq (level 3) (level 2) ∷ [])
    ∷ (same (level 2) (level 2) ∷ same (level 1) (level 2) ∷ same (level 2) (level 1) ∷ [])
    -- "One label dominates another when its level is at least as high and its set contains the other's"; equal in both parts
    ∷ (leq (label 1 4) (label 2 5) ∷ leq (label 2 4) (label 1 5) ∷ leq (label 1 4) (label 2 3) ∷ leq (label 2 3) (label 1 4) ∷ [])
    ∷ (same (label 2 5) (label 2 5) ∷ same (label 2 5) (label 2 1) ∷ same (label 2 5) (label 3 5) ∷ [])
    ∷ (given (level 0) ∷ given (level 15) ∷ given (level 255) ∷ [])
    ∷ (lawful (level 0) ∷ lawful (label 15 255) ∷ lawful (level 16) ∷ lawful (level 255) ∷ lawful (label 0 256) ∷ [])
    ∷ []
    ≡ (true ∷ true ∷ false ∷ []) ∷ (true ∷ false ∷ false ∷ [])
    ∷ (true ∷ false ∷ false ∷ false ∷ []) ∷ (true ∷ false ∷ false ∷ []) ∷ (true ∷ true ∷ false ∷ [])
    ∷ (true ∷ true ∷ false ∷ false ∷ false ∷ []) ∷ []
unfolding everything
levels = refl

pub larger_and_smaller :
    join (level 1) (level 2) ∷ join (level 2) (level 1) ∷ meet (level 1) (level 2) ∷ meet (level 2) (level 1)
    -- of labels of which none dominates the other
    ∷ join (label 1 6) (label 2 3) ∷ join (label 2 3) (label 1 6) ∷ meet (label 1 6) (label 2 3) ∷ meet (label 2 3) (label 1 6) ∷ []
    ≡ level 2 ∷ level 2 ∷ level 1 ∷ level 1
    ∷ label 2 7 ∷ label 2 7 ∷ label 1 2 ∷ label 1 2 ∷ []
unfolding everything
larger_and_smaller = refl

-- "A fresh facility has no process, no refusals counted": 16 users, 128 objects, 32 processes, all of it 0 but the switches
abbrev arrays : Facility → List (List ℕ)
arrays f =
    f.clearances ∷ f.roles ∷ f.trusts
    ∷ f.lives ∷ f.kinds ∷ f.levels ∷ f.categories ∷ f.datatypes
    ∷ f.runnings ∷ f.owners ∷ f.currents ∷ f.readmarks ∷ f.writemarks ∷ f.automatics ∷ f.flags ∷ f.parents ∷ f.moves
    ∷ f.clearancesets ∷ f.sets ∷ f.currentsets ∷ f.readsets ∷ f.writesets ∷ []

abbrev mixed : Switches
mixed = record { mac = 1; fc = 2; sim = 3; ff = 4 }

pub blank_facility :
    (counts (blank mixed) ∷ arrays (blank mixed)) ++ ((blank mixed).opens ∷ ((blank mixed).ff ∷ []) ∷ [])
    ≡ (1 ∷ 2 ∷ 3 ∷ 0 ∷ 0 ∷ 0 ∷ [])
    ∷ replicate 16 0 ∷ replicate 16 0 ∷ replicate 16 0
    ∷ replicate 128 0 ∷ replicate 128 0 ∷ replicate 128 0 ∷ replicate 128 0 ∷ replicate 128 0
    ∷ replicate 32 0 ∷ replicate 32 0 ∷ replicate 32 0 ∷ replicate 32 0 ∷ replicate 32 0 ∷ replicate 32 0 ∷ replicate 128 0 ∷ replicate 128 0
    ∷ replicate 32 0 ∷ replicate 16 0 ∷ replicate 128 0 ∷ replicate 32 0 ∷ replicate 32 0 ∷ replicate 32 0
    ∷ replicate 4096 0 ∷ (4 ∷ []) ∷ []
unfolding everything
blank_facility = refl

-- "Login: current 0, read mark 0, write mark 15, automatic on", "15 with all eight", no move yet; of a process that does not run nothing is kept
pub fresh_process_example :
    fresh_process 7 ∷ no_process ∷ []
    ≡ record { running = 1; owner = 7; current = level 0; readmark = level 0; writemark = label 15 255; automatic = 1; moves = 0 }
    ∷ record { running = 0; owner = 0; current = level 0; readmark = level 0; writemark = level 0; automatic = 0; moves = 0 }
    ∷ []
unfolding everything
fresh_process_example = refl

-- "at 4,294,967,295 it stays", "each with its own stop": sixteen counters next to their stop, and one more refusal of users 0, 1, 15 and 16
pub counter_stop :
    map (λ u. (counted (put_refusals (blank all_off) (4294967295 ∷ 4294967294 ∷ replicate 13 4294967295 ++ (4294967293 ∷ []))) u).refusals)
    (0 ∷ 1 ∷ 15 ∷ 16 ∷ [])
    ≡ (4294967295 ∷ 4294967294 ∷ replicate 13 4294967295 ++ (4294967293 ∷ []))
    ∷ (4294967295 ∷ 4294967295 ∷ replicate 13 4294967295 ++ (4294967293 ∷ []))
    ∷ (4294967295 ∷ 4294967294 ∷ replicate 13 4294967295 ++ (4294967294 ∷ []))
    ∷ (4294967295 ∷ 4294967294 ∷ replicate 13 4294967295 ++ (4294967293 ∷ []))
    ∷ []
unfolding everything
counter_stop = refl

-- "open for reading and open for writing are two marks": 1 and 2; opens add their modes
pub open_marks_example :
    (map reading (0 ∷ 1 ∷ 2 ∷ 3 ∷ []) ∷ map writing (0 ∷ 1 ∷ 2 ∷ 3 ∷ []) ∷ [])
    ≡ (false ∷ true ∷ false ∷ true ∷ []) ∷ (false ∷ false ∷ true ∷ true ∷ []) ∷ []
unfolding everything
open_marks_example = refl

pub added_modes :
    map (add_modes 0) (0 ∷ 1 ∷ 2 ∷ 3 ∷ []) ∷ map (add_modes 1) (0 ∷ 1 ∷ 2 ∷ 3 ∷ [])
    ∷ map (add_modes 2) (0 ∷ 1 ∷ 2 ∷ 3 ∷ []) ∷ map (add_modes 3) (0 ∷ 1 ∷ 2 ∷ 3 ∷ []) ∷ []
    ≡ (0 ∷ 1 ∷ 2 ∷ 3 ∷ []) ∷ (1 ∷ 1 ∷ 3 ∷ 3 ∷ []) ∷ (2 ∷ 3 ∷ 2 ∷ 3 ∷ []) ∷ (3 ∷ 3 ∷ 3 ∷ 3 ∷ []) ∷ []
unfolding everything
added_modes = refl

-- what each change of the opens makes of a pair's marks 0, 1, 2 and 3
pub changed_marks :
    map (λ x. map (marks_after x) (0 ∷ 1 ∷ 2 ∷ 3 ∷ [])) (Keep ∷ Add 1 ∷ Add 2 ∷ Add 3 ∷ Close ∷ CloseAll ∷ [])
    ≡ (0 ∷ 1 ∷ 2 ∷ 3 ∷ []) ∷ (1 ∷ 1 ∷ 3 ∷ 3 ∷ []) ∷ (2 ∷ 3 ∷ 2 ∷ 3 ∷ []) ∷ (3 ∷ 3 ∷ 3 ∷ 3 ∷ []) ∷ (0 ∷ 0 ∷ 0 ∷ 0 ∷ []) ∷ (0 ∷ 0 ∷ 0 ∷ 0 ∷ []) ∷ []
unfolding everything
changed_marks = refl

-- A facility with users 0 and 1, objects 0 and 1, processes 0 and 31, and seven refusals of user 0.
abbrev user0 : User
user0 = record { clearance = label 12 15; role = 1; trusted = 0 }

abbrev user1 : User
user1 = record { clearance = label 3 2; role = 2; trusted = 1 }

abbrev object0 : Object
object0 = record { live = 1; kind = 0; label = label 4 1; category = 1; datatype = 1; flags = 131; parent = 0 }

abbrev object1 : Object
object1 = record { live = 1; kind = 2; label = level 255; category = 255; datatype = 0; flags = 12; parent = 1 }

abbrev process0 : Process
process0 = record { running = 1; owner = 1; current = label 5 6; readmark = label 2 2; writemark = label 9 7; automatic = 1; moves = 4 }

abbrev process31 : Process
process31 = record { running = 1; owner = 0; current = label 6 24; readmark = label 3 8; writemark = label 8 88; automatic = 0; moves = 2 }

abbrev filled : Facility
filled =
    put_refusals
    (opened (opened (put_process (put_process (put_object (put_object (put_user (put_user
    (blank (record { mac = 1; fc = 0; sim = 1; ff = 1 })) user0) user1) object0) object1) 0 process0) 31 process31) 0 1 3) 31 0 2)
    (7 ∷ replicate 15 0)

-- all that stands in a facility of two users, two objects, and processes 0, 1 and 31, with their moves and all categories last, but for
-- the opens; and the opens
abbrev contents : Facility → List (List ℕ)
contents f =
    counts f ∷ user_bytes f 0 ∷ user_bytes f 1 ∷ object_bytes f 0 ∷ object_bytes f 1 ∷ process_bytes f 0 ∷ process_bytes f 1 ∷ process_bytes f 31
    ∷ map (at f.moves) (0 ∷ 1 ∷ 31 ∷ []) ∷ map (at f.clearancesets) (0 ∷ 1 ∷ []) ∷ map (at f.sets) (0 ∷ 1 ∷ [])
    ∷ category_bytes f 0 ∷ category_bytes f 1 ∷ category_bytes f 31 ∷ []

abbrev open_marks : Facility → List (List ℕ)
open_marks f = open_bytes f 0 2 ∷ open_bytes f 1 2 ∷ open_bytes f 31 2 ∷ []

pub facility_contents :
    contents filled ++ open_marks filled
    ≡ (1 ∷ 0 ∷ 1 ∷ 2 ∷ 2 ∷ 7 ∷ []) ∷ (12 ∷ 1 ∷ 0 ∷ []) ∷ (3 ∷ 2 ∷ 1 ∷ [])
    ∷ (1 ∷ 0 ∷ 4 ∷ 1 ∷ 1 ∷ []) ∷ (1 ∷ 2 ∷ 255 ∷ 255 ∷ 0 ∷ [])
    ∷ (1 ∷ 1 ∷ 5 ∷ 2 ∷ 9 ∷ 1 ∷ []) ∷ (0 ∷ 0 ∷ 0 ∷ 0 ∷ 0 ∷ 0 ∷ []) ∷ (1 ∷ 0 ∷ 6 ∷ 3 ∷ 8 ∷ 0 ∷ []) ∷ (4 ∷ 0 ∷ 2 ∷ [])
    ∷ (15 ∷ 2 ∷ []) ∷ (1 ∷ 0 ∷ []) ∷ (6 ∷ 2 ∷ 7 ∷ []) ∷ (0 ∷ 0 ∷ 0 ∷ []) ∷ (24 ∷ 8 ∷ 88 ∷ [])
    ∷ (0 ∷ 3 ∷ []) ∷ (0 ∷ 0 ∷ []) ∷ (2 ∷ 0 ∷ []) ∷ []
unfolding everything
facility_contents = refl

-- what is read off it
pub read_off :
    (process_of filled 0 ≡ process0) × (process_of filled 31 ≡ process31) × (object_of filled 0 ≡ object0) × (object_of filled 1 ≡ object1)
    × (user_of filled 0 ≡ user0) × (user_of filled 1 ≡ user1)
unfolding everything
read_off = (refl, refl, refl, refl, refl, refl)

pub read_off_tests :
    map (runs filled) (0 ∷ 1 ∷ 31 ∷ 32 ∷ []) ∷ map (live (drop_object filled 0)) (0 ∷ 1 ∷ 2 ∷ [])
    ∷ map (is_user filled) (0 ∷ 1 ∷ 2 ∷ []) ∷ map (trusted_user filled) (0 ∷ 1 ∷ 2 ∷ [])
    ∷ (is_automatic process0 ∷ is_automatic process31 ∷ []) ∷ []
    ≡ (true ∷ false ∷ true ∷ false ∷ []) ∷ (false ∷ true ∷ false ∷ [])
    ∷ (true ∷ true ∷ false ∷ []) ∷ (false ∷ true ∷ false ∷ []) ∷ (true ∷ false ∷ []) ∷ []
unfolding everything
read_off_tests = refl

pub read_off_levels :
    label_of filled 0 ∷ label_of filled 1 ∷ clearance_of filled 0 ∷ clearance_of filled 1 ∷ []
    ≡ label 4 1 ∷ level 255 ∷ label 12 15 ∷ label 3 2 ∷ []
unfolding everything
read_off_levels = refl

-- Each change, and that it leaves all else. Process 1 becomes a clone of 0:
pub cloned_process :
    (contents (cloned filled 0 1)
    ≡ (1 ∷ 0 ∷ 1 ∷ 2 ∷ 2 ∷ 7 ∷ []) ∷ (12 ∷ 1 ∷ 0 ∷ []) ∷ (3 ∷ 2 ∷ 1 ∷ [])
    ∷ (1 ∷ 0 ∷ 4 ∷ 1 ∷ 1 ∷ []) ∷ (1 ∷ 2 ∷ 255 ∷ 255 ∷ 0 ∷ [])
    ∷ (1 ∷ 1 ∷ 5 ∷ 2 ∷ 9 ∷ 1 ∷ []) ∷ (1 ∷ 1 ∷ 5 ∷ 2 ∷ 9 ∷ 1 ∷ []) ∷ (1 ∷ 0 ∷ 6 ∷ 3 ∷ 8 ∷ 0 ∷ []) ∷ (4 ∷ 4 ∷ 2 ∷ [])
    ∷ (15 ∷ 2 ∷ []) ∷ (1 ∷ 0 ∷ []) ∷ (6 ∷ 2 ∷ 7 ∷ []) ∷ (6 ∷ 2 ∷ 7 ∷ []) ∷ (24 ∷ 8 ∷ 88 ∷ []) ∷ [])
    × ((cloned filled 0 1).opens ≡ copy_process filled.opens 0 1)
unfolding everything
cloned_process = (refl, refl)

-- 31 terminates:
pub terminated_process :
    (contents (terminated filled 31)
    ≡ (1 ∷ 0 ∷ 1 ∷ 2 ∷ 2 ∷ 7 ∷ []) ∷ (12 ∷ 1 ∷ 0 ∷ []) ∷ (3 ∷ 2 ∷ 1 ∷ [])
    ∷ (1 ∷ 0 ∷ 4 ∷ 1 ∷ 1 ∷ []) ∷ (1 ∷ 2 ∷ 255 ∷ 255 ∷ 0 ∷ [])
    ∷ (1 ∷ 1 ∷ 5 ∷ 2 ∷ 9 ∷ 1 ∷ []) ∷ (0 ∷ 0 ∷ 0 ∷ 0 ∷ 0 ∷ 0 ∷ []) ∷ (0 ∷ 0 ∷ 0 ∷ 0 ∷ 0 ∷ 0 ∷ []) ∷ (4 ∷ 0 ∷ 0 ∷ [])
    ∷ (15 ∷ 2 ∷ []) ∷ (1 ∷ 0 ∷ []) ∷ (6 ∷ 2 ∷ 7 ∷ []) ∷ (0 ∷ 0 ∷ 0 ∷ []) ∷ (0 ∷ 0 ∷ 0 ∷ []) ∷ [])
    × ((terminated filled 31).opens ≡ close_process filled.opens 31)
unfolding everything
terminated_process = (refl, refl)

-- object 1 is deleted: it keeps what else it had
pub deleted_object :
    (contents (deleted filled 1)
    ≡ (1 ∷ 0 ∷ 1 ∷ 2 ∷ 2 ∷ 7 ∷ []) ∷ (12 ∷ 1 ∷ 0 ∷ []) ∷ (3 ∷ 2 ∷ 1 ∷ [])
    ∷ (1 ∷ 0 ∷ 4 ∷ 1 ∷ 1 ∷ []) ∷ (0 ∷ 2 ∷ 255 ∷ 255 ∷ 0 ∷ [])
    ∷ (1 ∷ 1 ∷ 5 ∷ 2 ∷ 9 ∷ 1 ∷ []) ∷ (0 ∷ 0 ∷ 0 ∷ 0 ∷ 0 ∷ 0 ∷ []) ∷ (1 ∷ 0 ∷ 6 ∷ 3 ∷ 8 ∷ 0 ∷ []) ∷ (4 ∷ 0 ∷ 2 ∷ [])
    ∷ (15 ∷ 2 ∷ []) ∷ (1 ∷ 0 ∷ []) ∷ (6 ∷ 2 ∷ 7 ∷ []) ∷ (0 ∷ 0 ∷ 0 ∷ []) ∷ (24 ∷ 8 ∷ 88 ∷ []) ∷ [])
    × ((deleted filled 1).opens ≡ close_object filled.opens 1)
unfolding everything
deleted_object = (refl, refl)

-- processes 31 and 1 open an object, 0 closes one
pub opened_and_closed :
    contents (closed (opened (opened filled 31 0 1) 1 1 2) 0 1) ++ open_marks (closed (opened (opened filled 31 0 1) 1 1 2) 0 1)
    ≡ (1 ∷ 0 ∷ 1 ∷ 2 ∷ 2 ∷ 7 ∷ []) ∷ (12 ∷ 1 ∷ 0 ∷ []) ∷ (3 ∷ 2 ∷ 1 ∷ [])
    ∷ (1 ∷ 0 ∷ 4 ∷ 1 ∷ 1 ∷ []) ∷ (1 ∷ 2 ∷ 255 ∷ 255 ∷ 0 ∷ [])
    ∷ (1 ∷ 1 ∷ 5 ∷ 2 ∷ 9 ∷ 1 ∷ []) ∷ (0 ∷ 0 ∷ 0 ∷ 0 ∷ 0 ∷ 0 ∷ []) ∷ (1 ∷ 0 ∷ 6 ∷ 3 ∷ 8 ∷ 0 ∷ []) ∷ (4 ∷ 0 ∷ 2 ∷ [])
    ∷ (15 ∷ 2 ∷ []) ∷ (1 ∷ 0 ∷ []) ∷ (6 ∷ 2 ∷ 7 ∷ []) ∷ (0 ∷ 0 ∷ 0 ∷ []) ∷ (24 ∷ 8 ∷ 88 ∷ [])
    ∷ (0 ∷ 0 ∷ []) ∷ (0 ∷ 2 ∷ []) ∷ (3 ∷ 0 ∷ []) ∷ []
unfolding everything
opened_and_closed = refl

-- the counter, and no more: one refusal
pub counted_once :
    contents (counted filled 0) ++ open_marks (counted filled 0)
    ≡ (1 ∷ 0 ∷ 1 ∷ 2 ∷ 2 ∷ 8 ∷ []) ∷ (12 ∷ 1 ∷ 0 ∷ []) ∷ (3 ∷ 2 ∷ 1 ∷ [])
    ∷ (1 ∷ 0 ∷ 4 ∷ 1 ∷ 1 ∷ []) ∷ (1 ∷ 2 ∷ 255 ∷ 255 ∷ 0 ∷ [])
    ∷ (1 ∷ 1 ∷ 5 ∷ 2 ∷ 9 ∷ 1 ∷ []) ∷ (0 ∷ 0 ∷ 0 ∷ 0 ∷ 0 ∷ 0 ∷ []) ∷ (1 ∷ 0 ∷ 6 ∷ 3 ∷ 8 ∷ 0 ∷ []) ∷ (4 ∷ 0 ∷ 2 ∷ [])
    ∷ (15 ∷ 2 ∷ []) ∷ (1 ∷ 0 ∷ []) ∷ (6 ∷ 2 ∷ 7 ∷ []) ∷ (0 ∷ 0 ∷ 0 ∷ []) ∷ (24 ∷ 8 ∷ 88 ∷ [])
    ∷ (0 ∷ 3 ∷ []) ∷ (0 ∷ 0 ∷ []) ∷ (2 ∷ 0 ∷ []) ∷ []
unfolding everything
counted_once = refl

-- where the marks of process p and object t stand: 128 to each process
pub mark_places :
    map (at filled.opens) (1 ∷ 3968 ∷ 3969 ∷ []) ≡ 3 ∷ 2 ∷ 0 ∷ []
unfolding everything
mark_places = refl

-- n more users, and n more objects
abbrev users : ℕ → Facility
users zero = blank all_off
users (suc n) = add_user (users n) user0

abbrev objects : ℕ → Facility
objects zero = blank all_off
objects (suc n) = add_object (objects n) object0

-- at most 16 users and 128 objects
pub rooms :
    ((users 16).users ∷ (users 17).users ∷ (objects 128).entered ∷ (objects 129).entered ∷ [])
    ∷ user_bytes (users 16) 15 ∷ object_bytes (objects 128) 127 ∷ []
    ≡ (16 ∷ 16 ∷ 128 ∷ 128 ∷ []) ∷ (12 ∷ 1 ∷ 0 ∷ []) ∷ (1 ∷ 0 ∷ 4 ∷ 1 ∷ 1 ∷ []) ∷ []
unfolding everything
rooms = refl
