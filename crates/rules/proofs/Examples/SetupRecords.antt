-- "Set-up records": each byte of each record at its limits, the order of the questions, what the fresh facility holds, and writing out.
use Rattle.std.specs.Prelude.{ℕ, zero, suc, ◌≡◌, refl, true, false, List, [], ◌∷◌, ◌++◌, map, replicate}
use Rattle.answers.specs.Outcomes.{setup_number, setup_index, write_number, write_length}
use Rattle.state.specs.State.{drop_object}
use Rattle.rules.specs.Types.{Facility}
use Rattle.rules.specs.Computed.{everything, switches, user, object, user_bytes, object_bytes, process_bytes, counts}
use Rattle.rules.specs.Setup.{read_setup, fresh, accepted_setup, setup_bytes, Writing, write_setup}

-- n files of level 0, and n users of clearance 0
abbrev pub files_of_level0 : ℕ → List ℕ
files_of_level0 zero = []
files_of_level0 (suc n) = object 0 0 0 0 ++ files_of_level0 n

abbrev pub users_of_level0 : ℕ → List ℕ
users_of_level0 zero = []
users_of_level0 (suc n) = user 0 0 0 ++ users_of_level0 n

abbrev pub number_and_index : List ℕ → List ℕ
number_and_index s = setup_number (read_setup s).outcome ∷ setup_index (read_setup s).outcome ∷ []

-- the eight bytes of one record
abbrev bytes : ℕ → ℕ → ℕ → ℕ → ℕ → ℕ → ℕ → ℕ → List ℕ
bytes kind one two three four five six seven = kind ∷ one ∷ two ∷ three ∷ four ∷ five ∷ six ∷ seven ∷ []

-- the number of a set-up of this record, and of this record behind a switches record
abbrev first : List ℕ → ℕ
first r = setup_number (read_setup r).outcome

abbrev second : List ℕ → ℕ
second r = setup_number (read_setup (switches 0 0 0 ++ r)).outcome

-- "bytes 1 to 3 MAC, FC, SIM, each 0 or 1", "a fourth switch is byte 4", "all other bytes are 0; no other field may be unset"
pub switches_bytes :
    map first
    (bytes 3 0 0 0 0 0 0 0 ∷ bytes 3 1 1 1 1 0 0 0 ∷ bytes 3 2 0 0 0 0 0 0 ∷ bytes 3 0 2 0 0 0 0 0 ∷ bytes 3 0 0 2 0 0 0 0
    ∷ bytes 3 255 0 0 0 0 0 0 ∷ bytes 3 0 255 0 0 0 0 0 ∷ bytes 3 0 0 255 0 0 0 0
    ∷ bytes 3 0 0 0 2 0 0 0 ∷ bytes 3 0 0 0 255 0 0 0 ∷ bytes 3 0 0 0 0 1 0 0 ∷ bytes 3 0 0 0 0 0 1 0 ∷ bytes 3 0 0 0 0 0 0 1 ∷ [])
    ≡ 0 ∷ 0 ∷ replicate 11 17
unfolding everything
switches_bytes = refl

-- "byte 1 clearance 0..15, byte 2 role 0, 1, 2, byte 3 trusted 0 or 1"; "byte 4 is the clearance's set"
pub user_bytes_example :
    map second
    (bytes 1 0 0 0 0 0 0 0 ∷ bytes 1 15 2 1 0 0 0 0 ∷ bytes 1 16 0 0 0 0 0 0 ∷ bytes 1 0 3 0 0 0 0 0 ∷ bytes 1 0 0 2 0 0 0 0
    ∷ bytes 1 255 0 0 0 0 0 0 ∷ bytes 1 0 255 0 0 0 0 0 ∷ bytes 1 0 0 255 0 0 0 0
    ∷ bytes 1 0 0 0 1 0 0 0 ∷ bytes 1 0 0 0 0 1 0 0 ∷ bytes 1 0 0 0 0 0 1 0 ∷ bytes 1 0 0 0 0 0 0 1 ∷ [])
    ≡ 0 ∷ 0 ∷ replicate 6 17 ++ (0 ∷ replicate 3 17)
unfolding everything
user_bytes_example = refl

-- "byte 1 kind 0..3, byte 2 level 0..15 or 255 unset, byte 3 category 0, 1, 2, 255 unset, byte 4 data type 0, 1"; "byte 5 has flags, other
-- bits must be 0; byte 6 is the parent directory's number plus 1, or 0"; "byte 7 the object's set"
pub object_bytes_example :
    map second
    (bytes 2 0 0 0 0 0 0 0 ∷ bytes 2 3 15 2 1 143 0 0 ∷ bytes 2 0 255 0 0 0 0 0 ∷ bytes 2 0 0 255 0 0 0 0
    ∷ bytes 2 4 0 0 0 0 0 0 ∷ bytes 2 255 0 0 0 0 0 0 ∷ bytes 2 0 16 0 0 0 0 0 ∷ bytes 2 0 254 0 0 0 0 0
    ∷ bytes 2 0 0 3 0 0 0 0 ∷ bytes 2 0 0 254 0 0 0 0 ∷ bytes 2 0 0 0 2 0 0 0 ∷ bytes 2 0 0 0 255 0 0 0
    ∷ bytes 2 0 0 0 0 16 0 0 ∷ bytes 2 0 0 0 0 32 0 0 ∷ bytes 2 0 0 0 0 64 0 0 ∷ bytes 2 0 0 0 0 255 0 0 ∷ bytes 2 0 0 0 0 256 0 0
    ∷ bytes 2 0 0 0 0 0 0 1 ∷ bytes 2 0 0 0 0 0 1 0 ∷ bytes 2 1 0 0 0 0 1 0 ∷ bytes 2 0 0 0 0 0 255 0 ∷ [])
    ≡ 0 ∷ 0 ∷ 0 ∷ 0 ∷ replicate 13 17 ++ (0 ∷ replicate 3 19)
unfolding everything
object_bytes_example = refl

-- "does the kind fit the place (3 first and only there, no 1 after a 2)?"
pub record_kinds :
    map first (bytes 0 0 0 0 0 0 0 0 ∷ user 0 0 0 ∷ object 0 0 0 0 ∷ bytes 4 0 0 0 0 0 0 0 ∷ [])
    ∷ map second (bytes 0 0 0 0 0 0 0 0 ∷ switches 0 0 0 ∷ bytes 4 0 0 0 0 0 0 0 ∷ user 0 0 0 ∷ object 0 0 0 0 ∷ [])
    ∷ map second ((user 0 0 0 ++ user 0 0 0) ∷ (object 0 0 0 0 ++ object 0 0 0 0) ∷ (object 0 0 0 0 ++ user 0 0 0) ∷ [])
    ∷ []
    ≡ (15 ∷ 15 ∷ 15 ∷ 15 ∷ []) ∷ (15 ∷ 15 ∷ 15 ∷ 0 ∷ 0 ∷ []) ∷ (0 ∷ 0 ∷ 15 ∷ []) ∷ []
unfolding everything
record_kinds = refl

-- set-ups of 16 and of 17 users, of 128 and of 129 objects, and no bytes
pub setup_limits :
    number_and_index (switches 1 1 1 ++ users_of_level0 16 ++ files_of_level0 128)
    ∷ number_and_index (switches 1 1 1 ++ users_of_level0 17)
    ∷ number_and_index (switches 1 1 1 ++ files_of_level0 129)
    ∷ number_and_index (switches 1 1 1 ++ files_of_level0 1 ++ user 0 0 0)
    ∷ number_and_index (switches 1 1 1 ++ files_of_level0 145)
    ∷ number_and_index []
    ∷ []
    ≡ (0 ∷ 0 ∷ []) ∷ (16 ∷ 17 ∷ []) ∷ (16 ∷ 129 ∷ []) ∷ (15 ∷ 2 ∷ []) ∷ (14 ∷ 0 ∷ []) ∷ (14 ∷ 0 ∷ []) ∷ []
unfolding everything
setup_limits = refl

-- the order of the questions, each asked "for each record in turn (its index is returned, 0 with 14)"
pub setup_order :
    -- 14: no multiple of 8, though the record in it is none; one byte more than a multiple
    number_and_index (0 ∷ [])
    ∷ number_and_index (switches 0 0 0 ++ (0 ∷ []))
    -- 15 before 16 and 17; 16 before 17
    ∷ number_and_index (switches 0 0 0 ++ users_of_level0 16 ++ object 0 0 0 0 ++ user 16 0 0)
    ∷ number_and_index (switches 0 0 0 ++ users_of_level0 16 ++ user 16 0 0)
    -- 17 of an earlier record before 15 of a later one
    ∷ number_and_index (switches 0 0 0 ++ user 0 3 0 ++ switches 0 0 0)
    ∷ []
    ≡ (14 ∷ 0 ∷ []) ∷ (14 ∷ 0 ∷ []) ∷ (15 ∷ 18 ∷ []) ∷ (16 ∷ 17 ∷ []) ∷ (17 ∷ 1 ∷ []) ∷ []
unfolding everything
setup_order = refl

-- accepted with number 0, and only so
pub accepted_setups :
    map accepted_setup (switches 0 0 0 ∷ (switches 0 0 0 ++ user 0 0 0) ∷ (switches 0 0 0 ++ user 16 0 0) ∷ user 0 0 0 ∷ [] ∷ [])
    ≡ true ∷ true ∷ false ∷ false ∷ false ∷ []
unfolding everything
accepted_setups = refl

-- SIM on alone, two users, two objects
abbrev small : Facility
small = fresh (switches 0 0 1 ++ user 9 2 0 ++ user 4 0 1 ++ object 3 255 2 0 ++ object 1 7 255 1)

-- what the fresh facility holds: its records in order, "no process, no refusals counted"; a refused one, of which nothing is kept
pub fresh_facility :
    counts small
    ∷ user_bytes small 0 ∷ user_bytes small 1 ∷ user_bytes small 2
    ∷ object_bytes small 0 ∷ object_bytes small 1 ∷ object_bytes small 2
    ∷ process_bytes small 0 ∷ process_bytes small 31
    ∷ counts (fresh (switches 1 1 0)) ∷ counts (fresh (switches 0 1 0))
    -- "a refused set-up gives the fresh facility of one switches record with all off"
    ∷ counts (fresh (switches 1 1 1 ++ user 5 1 1 ++ object 0 5 1 1 ++ object 0 16 0 0))
    ∷ user_bytes (fresh (switches 1 1 1 ++ user 5 1 1 ++ object 0 5 1 1 ++ object 0 16 0 0)) 0
    ∷ object_bytes (fresh (switches 1 1 1 ++ user 5 1 1 ++ object 0 5 1 1 ++ object 0 16 0 0)) 0
    ∷ counts (fresh (switches 1 1 1 ++ (0 ∷ [])))
    ∷ []
    ≡ (0 ∷ 0 ∷ 1 ∷ 2 ∷ 2 ∷ 0 ∷ [])
    ∷ (9 ∷ 2 ∷ 0 ∷ []) ∷ (4 ∷ 0 ∷ 1 ∷ []) ∷ (0 ∷ 0 ∷ 0 ∷ [])
    ∷ (1 ∷ 3 ∷ 255 ∷ 2 ∷ 0 ∷ []) ∷ (1 ∷ 1 ∷ 7 ∷ 255 ∷ 1 ∷ []) ∷ (0 ∷ 0 ∷ 0 ∷ 0 ∷ 0 ∷ [])
    ∷ replicate 6 0 ∷ replicate 6 0
    ∷ (1 ∷ 1 ∷ 0 ∷ 0 ∷ 0 ∷ 0 ∷ []) ∷ (0 ∷ 1 ∷ 0 ∷ 0 ∷ 0 ∷ 0 ∷ [])
    ∷ replicate 6 0 ∷ replicate 3 0 ∷ replicate 5 0
    ∷ replicate 6 0
    ∷ []
unfolding everything
fresh_facility = refl

-- what is written out without the deleted object 0
pub written_out :
    setup_bytes (drop_object (fresh (switches 1 0 1 ++ user 3 2 0 ++ object 0 0 0 0 ++ object 3 255 255 1)) 0)
    ≡ switches 1 0 1 ++ user 3 2 0 ++ object 3 255 255 1
unfolding everything
written_out = refl

-- "exactly switches, users, live objects in order are written": every field, and two of each kind
pub written_in_order :
    setup_bytes (fresh (switches 0 1 0 ++ user 3 2 1 ++ user 4 1 0 ++ object 3 5 2 1 ++ object 1 255 255 0))
    ∷ setup_bytes (fresh (switches 0 0 1)) ∷ setup_bytes (fresh (switches 1 0 0))
    ∷ []
    ≡ (switches 0 1 0 ++ user 3 2 1 ++ user 4 1 0 ++ object 3 5 2 1 ++ object 1 255 255 0)
    ∷ switches 0 0 1 ∷ switches 1 0 0
    ∷ []
unfolding everything
written_in_order = refl

-- the number, the length and the buffer afterwards
abbrev written : Writing → List ℕ
written w = write_number w.outcome ∷ write_length w.outcome ∷ w.buffer

-- "does the lent buffer hold it all? No: 18, length 0, buffer untouched. Else .. later bytes untouched, and the length is returned"
pub lent_buffer :
    written (write_setup (fresh (switches 1 1 0)) (replicate 7 9))
    ∷ written (write_setup (fresh (switches 1 1 0)) (replicate 8 9))
    ∷ written (write_setup (fresh (switches 1 1 0)) (replicate 10 9))
    ∷ []
    ≡ (18 ∷ 0 ∷ replicate 7 9)
    ∷ (0 ∷ 8 ∷ switches 1 1 0)
    ∷ (0 ∷ 8 ∷ (switches 1 1 0 ++ (9 ∷ 9 ∷ [])))
    ∷ []
unfolding everything
lent_buffer = refl

-- the same of a set-up whose first object is deleted: it needs 16 bytes, and a buffer that holds the switches alone is untouched
abbrev one_deleted : Facility
one_deleted = drop_object (fresh (switches 1 0 1 ++ object 0 0 0 0 ++ object 3 255 255 1)) 0

pub lent_for_live :
    written (write_setup one_deleted (replicate 8 9))
    ∷ written (write_setup one_deleted (replicate 15 9))
    ∷ written (write_setup one_deleted (replicate 16 9))
    ∷ written (write_setup one_deleted (replicate 17 9))
    ∷ []
    ≡ (18 ∷ 0 ∷ replicate 8 9)
    ∷ (18 ∷ 0 ∷ replicate 15 9)
    ∷ (0 ∷ 16 ∷ (switches 1 0 1 ++ object 3 255 255 1))
    ∷ (0 ∷ 16 ∷ (switches 1 0 1 ++ object 3 255 255 1 ++ (9 ∷ [])))
    ∷ []
unfolding everything
lent_for_live = refl
