-- "Matter": each line of the account, with what it does not carry.
use Rattle.std.specs.Prelude.{ℕ, ◌≡◌, refl, Bool, true, false, cond, List, [], ◌∷◌, ◌++◌, map, eqb, ltb}
use Rattle.labels.specs.Decisions.{◌or◌}
use Rattle.rules.specs.Types.{Call}
use Rattle.rules.specs.Computed.{everything, call, switches, user, object, numbers_below}
use Rattle.rules.specs.Setup.{fresh}
use Rattle.rules.specs.Requests.{Absent, Reads, Writes, Both, NoCondition}
use Rattle.rules.specs.Matter.{Set, nothing, only, Account, account, start, holds, takes, gives}
use Rattle.rules.specs.Histories.{Entry}

-- an account of a directory 1 and six objects, the others files, each holding itself
abbrev six_objects : Account
six_objects = record { next = 6; kinds = λ t. cond (eqb t 1) 1 0; objects = only; processes = λ p. nothing }

abbrev accepted_call : Call → Entry
accepted_call c = record { call = c; accepted = true }

abbrev refused_call : Call → Entry
refused_call c = record { call = c; accepted = false }

-- whether object b holds the matter of a after these calls, all accepted
abbrev held : List Call → ℕ → ℕ → Bool
held cs b a = (account six_objects (map accepted_call cs)).objects b a

-- how matter is carried: from file 0 by execute, to file 5 by write; on by a clone; into a directory and a new file by create; not past a login
pub carried :
    held [] 5 5
    ∷ held (call 21 0 0 0 ∷ call 7 0 0 0 ∷ call 20 0 5 0 ∷ call 19 0 5 0 ∷ []) 5 0
    ∷ held (call 21 0 0 0 ∷ call 7 0 0 0 ∷ call 2 0 1 0 ∷ call 20 1 5 0 ∷ call 19 1 5 0 ∷ []) 5 0
    ∷ held (call 21 0 0 0 ∷ call 7 0 0 0 ∷ call 4 0 1 0 ∷ []) 1 0
    ∷ held (call 21 0 0 0 ∷ call 7 0 0 0 ∷ call 4 0 1 0 ∷ []) 6 6
    ∷ held (call 21 0 0 0 ∷ call 4 0 1 0 ∷ call 7 0 6 0 ∷ call 19 0 1 0 ∷ []) 1 6
    ∷ held (call 21 0 0 0 ∷ call 7 0 0 0 ∷ call 4 0 1 0 ∷ []) 6 0
    ∷ held (call 21 0 0 0 ∷ call 13 0 0 0 ∷ call 20 0 5 0 ∷ call 19 0 5 0 ∷ []) 5 0
    ∷ held (call 21 0 0 0 ∷ call 7 0 0 0 ∷ call 20 0 5 0 ∷ []) 5 0
    ∷ held (call 21 0 0 0 ∷ call 7 0 0 0 ∷ call 18 0 0 0 ∷ call 21 0 0 0 ∷ call 20 0 5 0 ∷ call 19 0 5 0 ∷ []) 5 0
    ∷ []
    ≡ true ∷ true ∷ true ∷ true ∷ true ∷ true ∷ false ∷ false ∷ false ∷ false ∷ []
unfolding everything
carried = refl

-- a file 0, a directory 1, a channel 2 and control data 3, each holding itself; process 0 holds 8, process 1 holds 9
abbrev four_kinds : Account
four_kinds =
    record {
      next = 4;
      kinds = λ t. cond (ltb t 4) t 0;
      objects = λ t. cond (ltb t 4) (only t) nothing;
      processes = λ p. cond (eqb p 0) (only 8) (cond (eqb p 1) (only 9) nothing);
    }

-- the numbers below 10 in a set
abbrev members : Set → List Bool
members s = map s (numbers_below 10)

abbrev after_call : Call → Account
after_call c = account four_kinds (accepted_call c ∷ [])

-- whether process 0 gains what object t holds by each request 0 to 21
abbrev taken_from : ℕ → List Bool
taken_from t = map (λ r. (after_call (call r 0 t 0)).processes 0 t) (numbers_below 22)

-- whether object t gains what process 0 holds by each request 0 to 21
abbrev given_to : ℕ → List Bool
given_to t = map (λ r. (after_call (call r 0 t 0)).objects t 8) (numbers_below 22)

-- whether a number is in a list
abbrev among : ℕ → List ℕ → Bool
among n [] = false
among n (x ∷ xs) = eqb n x or among n xs

-- the list of 22 with true at these requests
abbrev at_requests : List ℕ → List Bool
at_requests rs = map (λ r. among r rs) (numbers_below 22)

-- "Read of a file or channel, and every R but read-open: p gains what t holds"
pub taken :
    taken_from 0 ∷ taken_from 1 ∷ taken_from 2 ∷ taken_from 3 ∷ []
    -- file: execute, read
    ≡ at_requests (7 ∷ 12 ∷ [])
    -- directory: read, search
    ∷ at_requests (12 ∷ 15 ∷ [])
    -- channel: read
    ∷ at_requests (12 ∷ [])
    -- control data: get-permissions-data, get-status-data
    ∷ at_requests (8 ∷ 9 ∷ [])
    ∷ []
unfolding everything
taken = refl

-- "Write, and every W but write-open, delete and create: t gains what p holds"; create (4, here with e 0): the directory t gains
pub handed_over :
    given_to 0 ∷ given_to 1 ∷ given_to 2 ∷ given_to 3 ∷ []
    -- file: create, delete-data, write
    ≡ at_requests (4 ∷ 6 ∷ 19 ∷ [])
    -- directory: create, write
    ∷ at_requests (4 ∷ 19 ∷ [])
    -- channel: alter, create, write
    ∷ at_requests (0 ∷ 4 ∷ 19 ∷ [])
    -- control data: change-owner, create, modify-access-data, modify-permissions-data
    ∷ at_requests (1 ∷ 4 ∷ 10 ∷ 11 ∷ [])
    ∷ []
unfolding everything
handed_over = refl

-- the same by class: every R but 13, N by 12; every W but 20, 5 and 4, N by 19; B and no class never
pub by_class_law :
    (map (λ r. takes r Reads) (13 ∷ 4 ∷ 7 ∷ []) ∷ map (λ r. gives r Writes) (20 ∷ 5 ∷ 4 ∷ 0 ∷ 19 ∷ []) ∷ [])
    ∷ (map (λ r. takes r NoCondition) (3 ∷ 12 ∷ 19 ∷ []) ∷ map (λ r. gives r NoCondition) (3 ∷ 12 ∷ 19 ∷ []) ∷ [])
    ∷ (map (takes 12) (Absent ∷ Writes ∷ Both ∷ []) ∷ map (gives 19) (Absent ∷ Reads ∷ Both ∷ []) ∷ [])
    ∷ []
    ≡ ((false ∷ true ∷ true ∷ []) ∷ (false ∷ false ∷ false ∷ true ∷ true ∷ []) ∷ [])
    ∷ ((false ∷ true ∷ false ∷ []) ∷ (false ∷ false ∷ true ∷ []) ∷ [])
    ∷ ((false ∷ false ∷ false ∷ []) ∷ (false ∷ false ∷ false ∷ []) ∷ [])
    ∷ []
unfolding everything
by_class_law = refl

-- a list with true at these places, of ten
abbrev numbers : List ℕ → List Bool
numbers xs = map (λ r. among r xs) (numbers_below 10)

-- what is gained is added to what was held, and nothing else changes
pub gains :
    -- read of file 0 by process 0: it holds 8 and 0; the file, and process 1, as before
    members ((after_call (call 12 0 0 0)).processes 0) ∷ members ((after_call (call 12 0 0 0)).processes 1)
    ∷ members ((after_call (call 12 0 0 0)).objects 0)
    -- write of file 0 by process 1: it holds 0 and 9; the processes, and directory 1, as before
    ∷ members ((after_call (call 19 1 0 0)).objects 0) ∷ members ((after_call (call 19 1 0 0)).objects 1)
    ∷ members ((after_call (call 19 1 0 0)).processes 1) ∷ members ((after_call (call 19 1 0 0)).processes 0)
    -- read of file 0 after that write, by process 0: all that the file holds
    ∷ members ((account four_kinds (accepted_call (call 19 1 0 0) ∷ accepted_call (call 12 0 0 0) ∷ [])).processes 0)
    ∷ []
    ≡ numbers (0 ∷ 8 ∷ []) ∷ numbers (9 ∷ []) ∷ numbers (0 ∷ [])
    ∷ numbers (0 ∷ 9 ∷ []) ∷ numbers (1 ∷ []) ∷ numbers (9 ∷ []) ∷ numbers (8 ∷ [])
    ∷ numbers (0 ∷ 8 ∷ 9 ∷ [])
    ∷ []
unfolding everything
gains = refl

-- "Login: p holds nothing." "Clone: t's set becomes a copy of p's."
pub login_and_clone :
    members ((after_call (call 21 0 1 1)).processes 0) ∷ members ((after_call (call 21 0 1 1)).processes 1)
    ∷ members ((after_call (call 2 0 1 0)).processes 0) ∷ members ((after_call (call 2 0 1 0)).processes 1)
    ∷ members ((after_call (call 2 0 1 0)).objects 1) ∷ members ((after_call (call 21 0 1 1)).objects 1)
    ∷ []
    ≡ numbers [] ∷ numbers (9 ∷ []) ∷ numbers (8 ∷ []) ∷ numbers (8 ∷ []) ∷ numbers (1 ∷ []) ∷ numbers (1 ∷ []) ∷ []
unfolding everything
login_and_clone = refl

-- "An accepted signal now carries: the receiver gains the sender's matter", beside what it held; all other sets are as before
pub signals_carry :
    members ((after_call (call 16 0 1 0)).processes 1) ∷ members ((after_call (call 16 0 1 0)).processes 0)
    ∷ members ((after_call (call 16 0 1 0)).processes 2) ∷ members ((after_call (call 16 0 1 0)).objects 0)
    ∷ members ((after_call (call 16 0 1 0)).objects 1)
    -- the other way round; to a process that holds nothing; from one that does; to itself
    ∷ members ((after_call (call 16 1 0 0)).processes 0) ∷ members ((after_call (call 16 0 2 0)).processes 2)
    ∷ members ((after_call (call 16 2 0 0)).processes 0) ∷ members ((after_call (call 16 0 0 0)).processes 0)
    ∷ []
    ≡ numbers (8 ∷ 9 ∷ []) ∷ numbers (8 ∷ []) ∷ numbers [] ∷ numbers (0 ∷ []) ∷ numbers (1 ∷ [])
    ∷ numbers (8 ∷ 9 ∷ []) ∷ numbers (8 ∷ []) ∷ numbers (8 ∷ []) ∷ numbers (8 ∷ [])
    ∷ []
unfolding everything
signals_carry = refl

-- what create with e leaves: the next number, the kinds of 3, 4 and 5, and what 1, 4 and process 0 hold
abbrev created_kinds : ℕ → List ℕ
created_kinds e =
    (after_call (call 4 0 1 e)).next ∷ (after_call (call 4 0 1 e)).kinds 3 ∷ (after_call (call 4 0 1 e)).kinds 4 ∷ (after_call (call 4 0 1 e)).kinds 5 ∷ []

abbrev created_sets : ℕ → List (List Bool)
created_sets e =
    members ((after_call (call 4 0 1 e)).objects 1) ∷ members ((after_call (call 4 0 1 e)).objects 4)
    ∷ members ((after_call (call 4 0 1 e)).processes 0) ∷ []

-- "the next object number gets kind e and holds itself; for e 0 or 1 the directory t gains what p holds"
pub creates :
    (map created_kinds (0 ∷ 1 ∷ 2 ∷ 3 ∷ []) ≡ (5 ∷ 3 ∷ 0 ∷ 0 ∷ []) ∷ (5 ∷ 3 ∷ 1 ∷ 0 ∷ []) ∷ (5 ∷ 3 ∷ 2 ∷ 0 ∷ []) ∷ (5 ∷ 3 ∷ 3 ∷ 0 ∷ []) ∷ [])
    × (map created_sets (0 ∷ 1 ∷ 2 ∷ 3 ∷ [])
    ≡ (numbers (1 ∷ 8 ∷ []) ∷ numbers (4 ∷ []) ∷ numbers (8 ∷ []) ∷ [])
    ∷ (numbers (1 ∷ 8 ∷ []) ∷ numbers (4 ∷ []) ∷ numbers (8 ∷ []) ∷ [])
    ∷ (numbers (1 ∷ []) ∷ numbers (4 ∷ []) ∷ numbers (8 ∷ []) ∷ [])
    ∷ (numbers (1 ∷ []) ∷ numbers (4 ∷ []) ∷ numbers (8 ∷ []) ∷ [])
    ∷ [])
unfolding everything
creates = (refl, refl)

-- "All else changes nothing": the whole account after B, close, delete, set-level, terminate, the opens, and no request
abbrev unchanged_by : Call → Type 0
unchanged_by c = after_call c ≡ four_kinds

pub nothing_carried :
    unchanged_by (call 14 0 0 0) × unchanged_by (call 14 0 2 0) × unchanged_by (call 3 0 0 0) × unchanged_by (call 5 0 0 0)
    × unchanged_by (call 17 0 1 0) × unchanged_by (call 18 0 1 0)
    × unchanged_by (call 13 0 0 0) × unchanged_by (call 20 0 0 0) × unchanged_by (call 22 0 1 0)
    -- "A refused call changes nothing"
    × (account four_kinds (map refused_call (call 12 0 0 0 ∷ call 4 0 1 0 ∷ call 16 0 1 0 ∷ [])) ≡ four_kinds)
unfolding everything
nothing_carried = (refl, refl, refl, refl, refl, refl, refl, refl, refl, refl)

-- a set-up of a directory and a channel, MAC on, a user of clearance 2
abbrev two_objects : List ℕ
two_objects = switches 1 0 0 ++ user 2 0 0 ++ object 1 1 0 0 ++ object 2 3 0 0

-- "At the start each object of the set-up has its kind and holds itself, and each process number holds nothing"
pub at_start :
    ((start (fresh two_objects)).next ∷ (start (fresh two_objects)).kinds 0 ∷ (start (fresh two_objects)).kinds 1 ∷ [] ≡ 2 ∷ 1 ∷ 2 ∷ [])
    × (members ((start (fresh two_objects)).objects 0) ∷ members ((start (fresh two_objects)).objects 1)
    ∷ members ((start (fresh two_objects)).objects 2) ∷ members ((start (fresh two_objects)).processes 0) ∷ []
    ≡ numbers (0 ∷ []) ∷ numbers (1 ∷ []) ∷ numbers [] ∷ numbers [] ∷ [])
unfolding everything
at_start = (refl, refl)

-- files of levels 1, 2 and 1 in that order, MAC on, a user of clearance 2
abbrev three_files : List ℕ
three_files = switches 1 0 0 ++ user 2 0 0 ++ object 0 1 0 0 ++ object 0 2 0 0 ++ object 0 1 0 0

-- after calls that are enforced: file 0's matter into file 1, not into file 2, whose write-open and write are refused after the read of 1
pub after_calls :
    map (λ b. holds three_files (call 21 0 0 0 ∷ call 7 0 0 0 ∷ call 20 0 1 0 ∷ call 19 0 1 0 ∷ []) b 0) (0 ∷ 1 ∷ 2 ∷ [])
    ∷ map (λ b. holds three_files (call 21 0 0 0 ∷ call 7 0 1 0 ∷ call 20 0 2 0 ∷ call 19 0 2 0 ∷ []) b 1) (0 ∷ 1 ∷ 2 ∷ [])
    -- a read that is refused, as the file is not open, takes nothing
    ∷ map (λ b. holds three_files (call 21 0 0 0 ∷ call 12 0 0 0 ∷ call 20 0 1 0 ∷ call 19 0 1 0 ∷ []) b 0) (0 ∷ 1 ∷ 2 ∷ [])
    -- "A deleted object keeps its kind and its set"
    ∷ map (λ b. holds three_files (call 21 0 0 0 ∷ call 7 0 0 0 ∷ call 20 0 1 0 ∷ call 19 0 1 0 ∷ call 5 0 1 0 ∷ []) b 0) (0 ∷ 1 ∷ 2 ∷ [])
    ∷ map (λ b. holds three_files [] b 1) (0 ∷ 1 ∷ 2 ∷ [])
    ∷ []
    ≡ (true ∷ true ∷ false ∷ [])
    ∷ (false ∷ true ∷ false ∷ [])
    ∷ (true ∷ false ∷ false ∷ [])
    ∷ (true ∷ true ∷ false ∷ [])
    ∷ (false ∷ true ∷ false ∷ [])
    ∷ []
unfolding everything
after_calls = refl
