-- "What the modules answer": each line with both sides of each of its conditions, and MAC's moves.
use Rattle.std.specs.Prelude.{ℕ, ◌≡◌, refl, true, false, List, [], ◌∷◌, ◌++◌, map}
use Rattle.answers.specs.Answers.{combine, combine_all, code, is_not_granted, is_undefined, grant, passes}
use Rattle.answers.specs.Outcomes.{answers_of}
use Rattle.rules.specs.Types.{Answer, NotCared, Granted, NotGranted, Undefined, Call, Process, User, Object, Facility}
use Rattle.rules.specs.Computed.{everything, codes, call, switches, user, object, level}
use Rattle.rules.specs.Requests.{Class, Absent, Reads, Writes, Both, NoCondition}
use Rattle.rules.specs.Setup.{fresh}
use Rattle.rules.specs.Calls.{query}
use Rattle.rules.specs.Histories.{run}
use Rattle.rules.specs.Modules.{may_read, may_write, may_set, mac_object, mac_signal, fc_rule, sim_rule, move_by, set_level}

-- "Not cared 0, granted 1, not granted 2, undefined 3"
abbrev four : List Answer
four = NotCared ∷ Granted ∷ NotGranted ∷ Undefined ∷ []

-- "Not cared is enforced like granted"
pub answer_tests :
    map code four ≡ 0 ∷ 1 ∷ 2 ∷ 3 ∷ []
    × map is_not_granted four ≡ false ∷ false ∷ true ∷ false ∷ []
    × map is_undefined four ≡ false ∷ false ∷ false ∷ true ∷ []
    × map passes four ≡ true ∷ true ∷ false ∷ false ∷ []
    × (grant true ∷ grant false ∷ []) ≡ Granted ∷ NotGranted ∷ []
unfolding everything
answer_tests = (refl, refl, refl, refl, refl)

-- "undefined beats all, then not granted, then granted; not cared with not cared stays so"
pub table_4_7 :
    map (combine NotCared) four ∷ map (combine Granted) four ∷ map (combine NotGranted) four ∷ map (combine Undefined) four ∷ []
    ≡ (NotCared ∷ Granted ∷ NotGranted ∷ Undefined ∷ [])
    ∷ (Granted ∷ Granted ∷ NotGranted ∷ Undefined ∷ [])
    ∷ (NotGranted ∷ NotGranted ∷ NotGranted ∷ Undefined ∷ [])
    ∷ (Undefined ∷ Undefined ∷ Undefined ∷ Undefined ∷ [])
    ∷ []
unfolding everything
table_4_7 = refl

-- each module's answer is heard
pub all_combined :
    map (λ a. combine_all a NotCared NotCared NotCared) four ∷ map (λ a. combine_all NotCared a NotCared NotCared) four
    ∷ map (λ a. combine_all NotCared NotCared a NotCared) four ∷ map (λ a. combine_all NotCared NotCared NotCared a) four
    ∷ map (λ a. combine_all a Granted NotGranted NotCared) four ∷ map (λ a. combine_all NotGranted a Granted NotCared) four
    ∷ map (λ a. combine_all Granted NotGranted a NotCared) four ∷ map (λ a. combine_all Granted NotCared NotGranted a) four
    ∷ []
    ≡ four ∷ four ∷ four ∷ four
    ∷ (NotGranted ∷ NotGranted ∷ NotGranted ∷ Undefined ∷ [])
    ∷ (NotGranted ∷ NotGranted ∷ NotGranted ∷ Undefined ∷ [])
    ∷ (NotGranted ∷ NotGranted ∷ NotGranted ∷ Undefined ∷ [])
    ∷ (NotGranted ∷ NotGranted ∷ NotGranted ∷ Undefined ∷ [])
    ∷ []
unfolding everything
all_combined = refl

-- a process after so many moves with these levels and flag, before any and after one; an object of this level, and an owner
abbrev process_after : ℕ → ℕ → ℕ → ℕ → ℕ → Process
process_after moves current readmark writemark automatic =
    record {
      running = 1;
      owner = 3;
      current = level current;
      readmark = level readmark;
      writemark = level writemark;
      automatic = automatic;
      moves = moves;
    }

abbrev process : ℕ → ℕ → ℕ → ℕ → Process
process current readmark writemark automatic = process_after 0 current readmark writemark automatic

abbrev moved_once : ℕ → ℕ → ℕ → ℕ → Process
moved_once current readmark writemark automatic = process_after 1 current readmark writemark automatic

abbrev levelled : ℕ → Object
levelled l = record { live = 1; kind = 0; label = level l; category = 0; datatype = 0; flags = 0; parent = 0 }

abbrev owner : ℕ → ℕ → User
owner clearance trusted = record { clearance = level clearance; role = 0; trusted = trusted }

-- "R: granted if L ≤ current, or automatic and L ≤ write mark and L ≤ clr"
pub reads :
    -- L ≤ current: nothing else is asked
    (may_read (level 2) (process 2 9 0 0) (level 0) ∷ may_read (level 1) (process 2 9 0 0) (level 0) ∷ may_read (level 3) (process 2 0 15 0) (level 15) ∷ [])
    -- automatic; the read mark is not asked
    ∷ (may_read (level 3) (process 2 0 15 1) (level 15) ∷ may_read (level 3) (process 2 15 15 1) (level 15) ∷ [])
    -- L ≤ write mark
    ∷ (may_read (level 3) (process 2 0 3 1) (level 15) ∷ may_read (level 3) (process 2 0 2 1) (level 15) ∷ [])
    -- L ≤ clr
    ∷ (may_read (level 3) (process 2 0 15 1) (level 3) ∷ may_read (level 3) (process 2 0 15 1) (level 2) ∷ [])
    ∷ []
    ≡ (true ∷ true ∷ false ∷ []) ∷ (true ∷ true ∷ []) ∷ (true ∷ false ∷ []) ∷ (true ∷ false ∷ []) ∷ []
unfolding everything
reads = refl

-- "W: granted if L = current, or automatic and read mark ≤ L ≤ write mark and L ≤ clr"
pub writes :
    -- L = current: nothing else is asked
    (may_write (level 2) (process 2 9 0 0) (level 0) ∷ may_write (level 1) (process 2 0 15 0) (level 15)
    ∷ may_write (level 3) (process 2 0 15 0) (level 15) ∷ [])
    -- automatic, up and down
    ∷ (may_write (level 3) (process 2 0 15 1) (level 15) ∷ may_write (level 1) (process 2 0 15 1) (level 15) ∷ [])
    -- read mark ≤ L
    ∷ (may_write (level 3) (process 2 3 15 1) (level 15) ∷ may_write (level 3) (process 2 4 15 1) (level 15) ∷ [])
    -- L ≤ write mark
    ∷ (may_write (level 3) (process 2 0 3 1) (level 15) ∷ may_write (level 3) (process 2 0 2 1) (level 15) ∷ [])
    -- L ≤ clr
    ∷ (may_write (level 3) (process 2 0 15 1) (level 3) ∷ may_write (level 3) (process 2 0 15 1) (level 2) ∷ [])
    ∷ []
    ≡ (true ∷ false ∷ false ∷ []) ∷ (true ∷ true ∷ []) ∷ (true ∷ false ∷ []) ∷ (true ∷ false ∷ []) ∷ (true ∷ false ∷ []) ∷ []
unfolding everything
writes = refl

-- "Set-level: granted if read mark ≤ e ≤ write mark and e ≤ clr", automatic or not
pub set_levels :
    may_set (level 3) (process 9 3 3 0) (level 3) ∷ may_set (level 3) (process 9 3 3 1) (level 3)
    ∷ may_set (level 3) (process 3 4 15 1) (level 15) ∷ may_set (level 3) (process 3 0 2 1) (level 15) ∷ may_set (level 3) (process 3 0 15 1) (level 2)
    ∷ []
    ≡ true ∷ true ∷ false ∷ false ∷ false ∷ []
unfolding everything
set_levels = refl

-- what MAC answers on an object of level l by class: none, R, W, B, N
abbrev by_class : ℕ → Process → User → List Answer
by_class l r u =
    map (λ k. mac_object k (levelled l) r u) (Absent ∷ Reads ∷ Writes ∷ Both ∷ NoCondition ∷ [])

-- automatic off and current level 2, so that only L ≤ current and L = current count
pub mac_by_class :
    by_class 1 (process 2 0 15 0) (owner 15 0) ∷ by_class 2 (process 2 0 15 0) (owner 15 0) ∷ by_class 3 (process 2 0 15 0) (owner 15 0)
    -- automatic on, clearance 3: up to it
    ∷ by_class 3 (process 2 0 15 1) (owner 3 0) ∷ by_class 4 (process 2 0 15 1) (owner 3 0)
    -- after reading 2: R below, no W or B
    ∷ by_class 1 (process 2 2 15 1) (owner 15 0)
    -- "Object with unset level: undefined, before everything else": trusted or not
    ∷ by_class 255 (process 2 0 15 1) (owner 15 0) ∷ by_class 255 (process 2 0 15 1) (owner 15 1)
    ∷ []
    ≡ (NotGranted ∷ Granted ∷ NotGranted ∷ NotGranted ∷ Granted ∷ [])
    ∷ (NotGranted ∷ Granted ∷ Granted ∷ Granted ∷ Granted ∷ [])
    ∷ (NotGranted ∷ NotGranted ∷ NotGranted ∷ NotGranted ∷ Granted ∷ [])
    ∷ (NotGranted ∷ Granted ∷ Granted ∷ Granted ∷ Granted ∷ [])
    ∷ (NotGranted ∷ NotGranted ∷ NotGranted ∷ NotGranted ∷ Granted ∷ [])
    ∷ (NotGranted ∷ Granted ∷ NotGranted ∷ NotGranted ∷ Granted ∷ [])
    ∷ (Undefined ∷ Undefined ∷ Undefined ∷ Undefined ∷ Undefined ∷ [])
    ∷ (Undefined ∷ Undefined ∷ Undefined ∷ Undefined ∷ Undefined ∷ [])
    ∷ []
unfolding everything
mac_by_class = refl

-- "Trusted owner: granted in every class and for signals", at any level and clearance
pub trusted_owners :
    map (λ k. mac_object k (levelled 3) (process 0 0 0 0) (owner 0 1)) (Reads ∷ Writes ∷ Both ∷ NoCondition ∷ [])
    ∷ (mac_signal (process 0 0 15 1) (owner 0 1) (process 3 0 15 1) ∷ [])
    ∷ []
    ≡ (Granted ∷ Granted ∷ Granted ∷ Granted ∷ []) ∷ (Granted ∷ []) ∷ []
unfolding everything
trusted_owners = refl

-- "Send-signal: granted if both current levels are equal", whatever the marks
pub signals :
    mac_signal (process 2 0 15 1) (owner 15 0) (process 2 1 9 0) ∷ mac_signal (process 2 0 15 1) (owner 15 0) (process 3 0 15 1)
    ∷ mac_signal (process 3 0 15 1) (owner 15 0) (process 2 0 15 1)
    ∷ []
    ≡ Granted ∷ NotGranted ∷ NotGranted ∷ []
unfolding everything
signals = refl

-- "R .. Effect: current and read mark become at least L"; automatic and owner stay; one move more exactly where current changes
pub moves :
    move_by Reads (level 3) (process 2 1 9 1) ∷ move_by Reads (level 1) (process 3 0 9 1) ∷ move_by Reads (level 1) (process 3 2 9 0)
    -- "W .. Effect: current becomes L, write mark at most L"
    ∷ move_by Writes (level 3) (process 2 1 9 1) ∷ move_by Writes (level 3) (process 5 1 2 0) ∷ move_by Writes (level 3) (process 3 1 9 1)
    -- "B: as W; both marks become L"
    ∷ move_by Both (level 3) (process 2 1 9 1) ∷ move_by Both (level 3) (process 5 4 2 0) ∷ move_by Both (level 3) (process 3 1 9 1)
    -- N: nothing
    ∷ move_by NoCondition (level 3) (process 2 1 9 1) ∷ move_by Absent (level 3) (process 2 1 9 1)
    -- "current becomes e, automatic goes off for good"; the marks stay, and it is no move
    ∷ set_level (level 3) (process 2 1 9 1) ∷ set_level (level 3) (process 4 1 9 0)
    ∷ []
    ≡ moved_once 3 3 9 1 ∷ process 3 1 9 1 ∷ process 3 2 9 0
    ∷ moved_once 3 1 3 1 ∷ moved_once 3 1 2 0 ∷ process 3 1 3 1
    ∷ moved_once 3 3 3 1 ∷ moved_once 3 3 3 0 ∷ process 3 3 3 1
    ∷ process 2 1 9 1 ∷ process 2 1 9 1
    ∷ process 3 1 9 0 ∷ process 3 1 9 0
    ∷ []
unfolding everything
moves = refl

-- the counter of moves stays at 255
pub moves_stop :
    map (λ n. move_by Both (level 3) (process_after n 2 1 9 1)) (253 ∷ 254 ∷ 255 ∷ [])
    ≡ process_after 254 3 3 3 1 ∷ process_after 255 3 3 3 1 ∷ process_after 255 3 3 3 1 ∷ []
unfolding everything
moves_stop = refl

-- the FC rule by category: general, security, system, unset, for the roles general, security officer, system administrator
abbrev by_category : ℕ → List Answer
by_category role =
    map
    (λ g. fc_rule (record { live = 1; kind = 0; label = level 0; category = g; datatype = 1; flags = 0; parent = 0 })
    (record { clearance = level 0; role = role; trusted = 0 }))
    (0 ∷ 1 ∷ 2 ∷ 255 ∷ [])

-- "unset category undefined; granted if the category is general or matches the role by number; else not granted"
pub fc_rule_example :
    by_category 0 ∷ by_category 1 ∷ by_category 2 ∷ []
    ≡ (Granted ∷ NotGranted ∷ NotGranted ∷ Undefined ∷ [])
    ∷ (Granted ∷ Granted ∷ NotGranted ∷ Undefined ∷ [])
    ∷ (Granted ∷ NotGranted ∷ Granted ∷ Undefined ∷ [])
    ∷ []
unfolding everything
fc_rule_example = refl

-- the SIM rule by role, for a request of this class on an object of this data type
abbrev by_role : ℕ → Class → ℕ → List Answer
by_role request k datatype =
    map
    (λ role. sim_rule request k (record { live = 1; kind = 0; label = level 0; category = 1; datatype = datatype; flags = 0; parent = 0 })
    (record { clearance = level 0; role = role; trusted = 1 }))
    (0 ∷ 1 ∷ 2 ∷ [])

-- "for class W or B, or write, on security information: granted to the security officer, else not granted"
pub sim_rule_example :
    -- W: delete-data, write of a directory; B: read&write-open; write (19) of a file, class N
    by_role 6 Writes 1 ∷ by_role 19 Writes 1 ∷ by_role 14 Both 1 ∷ by_role 19 NoCondition 1
    -- R, N that is no write: read and close
    ∷ by_role 13 Reads 1 ∷ by_role 12 NoCondition 1 ∷ by_role 3 NoCondition 1
    -- data type none
    ∷ by_role 6 Writes 0 ∷ by_role 14 Both 0 ∷ by_role 19 NoCondition 0
    ∷ []
    ≡ (NotGranted ∷ Granted ∷ NotGranted ∷ []) ∷ (NotGranted ∷ Granted ∷ NotGranted ∷ [])
    ∷ (NotGranted ∷ Granted ∷ NotGranted ∷ []) ∷ (NotGranted ∷ Granted ∷ NotGranted ∷ [])
    ∷ (NotCared ∷ NotCared ∷ NotCared ∷ []) ∷ (NotCared ∷ NotCared ∷ NotCared ∷ []) ∷ (NotCared ∷ NotCared ∷ NotCared ∷ [])
    ∷ (NotCared ∷ NotCared ∷ NotCared ∷ []) ∷ (NotCared ∷ NotCared ∷ NotCared ∷ []) ∷ (NotCared ∷ NotCared ∷ NotCared ∷ [])
    ∷ []
unfolding everything
sim_rule_example = refl

-- Users 0 general of clearance 5, 1 trusted of clearance 0, 2 security officer of clearance 5; file 0 of level 3, directory 1 of level 0 and category
-- security, channel 2 of level 0 and data type security information, file 3 of unset level, directory 4 of unset category, directory 5 of data type
-- security information, file 6 of level 9, security in category and data type.
abbrev seven_objects : ℕ → ℕ → ℕ → Facility
seven_objects mac fc sim =
    fresh
    (switches mac fc sim ++ user 5 0 0 ++ user 0 0 1 ++ user 5 1 0
    ++ object 0 3 0 0 ++ object 1 0 1 0 ++ object 2 0 0 1 ++ object 0 255 0 0 ++ object 1 0 255 0 ++ object 1 0 0 1 ++ object 0 9 1 1)

-- the answers, MAC's, FC's, SIM's and the combined, of a call after others
abbrev answers_to : Facility → List Call → Call → List ℕ
answers_to f cs c = codes (answers_of (query (run f cs) c))

-- a process 0 of user 0, of user 1 (trusted) and of user 2 (security officer)
abbrev general : List Call
general = call 21 0 0 0 ∷ []

abbrev trusted : List Call
trusted = call 21 0 0 1 ∷ []

abbrev officer : List Call
officer = call 21 0 0 2 ∷ []

-- MAC alone, by request. "N, login, clone, terminate, create of a channel or control data: granted"
pub mac_by_request :
    answers_to (seven_objects 1 0 0) [] (call 21 0 0 0) ∷ answers_to (seven_objects 1 0 0) general (call 2 0 1 0)
    ∷ answers_to (seven_objects 1 0 0) general (call 18 0 0 0)
    ∷ answers_to (seven_objects 1 0 0) general (call 4 0 3 2) ∷ answers_to (seven_objects 1 0 0) general (call 4 0 3 3)
    ∷ answers_to (seven_objects 1 0 0) (general ++ (call 13 0 0 0 ∷ [])) (call 12 0 0 0)
    ∷ answers_to (seven_objects 1 0 0) (general ++ (call 13 0 0 0 ∷ [])) (call 3 0 0 0)
    -- create in a directory is a W on it: after reading 3 not at level 0; undefined where its level is unset
    ∷ answers_to (seven_objects 1 0 0) general (call 4 0 1 0)
    ∷ answers_to (seven_objects 1 0 0) (general ++ (call 13 0 0 0 ∷ [])) (call 4 0 1 1)
    ∷ answers_to (fresh (switches 1 0 0 ++ user 5 0 1 ++ object 1 255 0 0)) general (call 4 0 0 0)
    -- R by its clearance
    ∷ answers_to (seven_objects 1 0 0) general (call 13 0 0 0) ∷ answers_to (seven_objects 1 0 0) general (call 13 0 6 0)
    -- set-level by marks and clearance
    ∷ answers_to (seven_objects 1 0 0) general (call 17 0 0 5) ∷ answers_to (seven_objects 1 0 0) general (call 17 0 0 6)
    ∷ answers_to (seven_objects 1 0 0) (general ++ (call 13 0 0 0 ∷ [])) (call 17 0 0 2)
    -- a signal between levels 0 and 0, 0 and 3, 3 and 0
    ∷ answers_to (seven_objects 1 0 0) (general ++ (call 2 0 1 0 ∷ [])) (call 16 0 1 0)
    ∷ answers_to (seven_objects 1 0 0) (general ++ (call 2 0 1 0 ∷ call 13 1 0 0 ∷ [])) (call 16 0 1 0)
    ∷ answers_to (seven_objects 1 0 0) (general ++ (call 2 0 1 0 ∷ call 13 0 0 0 ∷ [])) (call 16 0 1 0)
    ∷ []
    ≡ (1 ∷ 0 ∷ 0 ∷ 1 ∷ []) ∷ (1 ∷ 0 ∷ 0 ∷ 1 ∷ []) ∷ (1 ∷ 0 ∷ 0 ∷ 1 ∷ []) ∷ (1 ∷ 0 ∷ 0 ∷ 1 ∷ []) ∷ (1 ∷ 0 ∷ 0 ∷ 1 ∷ [])
    ∷ (1 ∷ 0 ∷ 0 ∷ 1 ∷ []) ∷ (1 ∷ 0 ∷ 0 ∷ 1 ∷ [])
    ∷ (1 ∷ 0 ∷ 0 ∷ 1 ∷ []) ∷ (2 ∷ 0 ∷ 0 ∷ 2 ∷ []) ∷ (3 ∷ 0 ∷ 0 ∷ 3 ∷ [])
    ∷ (1 ∷ 0 ∷ 0 ∷ 1 ∷ []) ∷ (2 ∷ 0 ∷ 0 ∷ 2 ∷ [])
    ∷ (1 ∷ 0 ∷ 0 ∷ 1 ∷ []) ∷ (2 ∷ 0 ∷ 0 ∷ 2 ∷ []) ∷ (2 ∷ 0 ∷ 0 ∷ 2 ∷ [])
    ∷ (1 ∷ 0 ∷ 0 ∷ 1 ∷ []) ∷ (2 ∷ 0 ∷ 0 ∷ 2 ∷ []) ∷ (2 ∷ 0 ∷ 0 ∷ 2 ∷ [])
    ∷ []
unfolding everything
mac_by_request = refl

-- "Trusted owner: granted in every class and for signals .. Set-level follows the rule below": the caller's owner, not the receiver's
pub trusted_requests :
    answers_to (seven_objects 1 0 0) trusted (call 13 0 0 0) ∷ answers_to (seven_objects 1 0 0) trusted (call 20 0 6 0)
    ∷ answers_to (seven_objects 1 0 0) trusted (call 14 0 6 0) ∷ answers_to (seven_objects 1 0 0) trusted (call 13 0 3 0)
    ∷ answers_to (seven_objects 1 0 0) trusted (call 17 0 0 0) ∷ answers_to (seven_objects 1 0 0) trusted (call 17 0 0 1)
    -- process 1 of user 0 reads up to 3; process 0 of the trusted user, at 0, may signal it, and it may not signal back
    ∷ answers_to (seven_objects 1 0 0) (trusted ++ (call 21 1 0 0 ∷ call 13 1 0 0 ∷ [])) (call 16 0 1 0)
    ∷ answers_to (seven_objects 1 0 0) (trusted ++ (call 21 1 0 0 ∷ call 13 1 0 0 ∷ [])) (call 16 1 0 0)
    ∷ []
    ≡ (1 ∷ 0 ∷ 0 ∷ 1 ∷ []) ∷ (1 ∷ 0 ∷ 0 ∷ 1 ∷ []) ∷ (1 ∷ 0 ∷ 0 ∷ 1 ∷ []) ∷ (3 ∷ 0 ∷ 0 ∷ 3 ∷ [])
    ∷ (1 ∷ 0 ∷ 0 ∷ 1 ∷ []) ∷ (2 ∷ 0 ∷ 0 ∷ 2 ∷ [])
    ∷ (1 ∷ 0 ∷ 0 ∷ 1 ∷ []) ∷ (2 ∷ 0 ∷ 0 ∷ 2 ∷ [])
    ∷ []
unfolding everything
trusted_requests = refl

-- FC alone: "object targets only". Login, clone, terminate, set-level, signal, and create of a channel or control data are none
pub fc_by_request :
    answers_to (seven_objects 0 1 0) [] (call 21 0 0 0) ∷ answers_to (seven_objects 0 1 0) general (call 2 0 6 0)
    ∷ answers_to (seven_objects 0 1 0) general (call 18 0 6 0) ∷ answers_to (seven_objects 0 1 0) general (call 17 0 6 0)
    ∷ answers_to (seven_objects 0 1 0) general (call 16 0 0 0)
    ∷ answers_to (seven_objects 0 1 0) general (call 4 0 6 2) ∷ answers_to (seven_objects 0 1 0) general (call 4 0 6 3)
    -- the category of the file, and of the directory in which an object is created; trusted or not
    ∷ answers_to (seven_objects 0 1 0) general (call 13 0 0 0) ∷ answers_to (seven_objects 0 1 0) general (call 13 0 6 0)
    ∷ answers_to (seven_objects 0 1 0) trusted (call 13 0 6 0) ∷ answers_to (seven_objects 0 1 0) officer (call 13 0 6 0)
    ∷ answers_to (seven_objects 0 1 0) general (call 4 0 1 0) ∷ answers_to (seven_objects 0 1 0) officer (call 4 0 1 1)
    ∷ answers_to (seven_objects 0 1 0) officer (call 4 0 4 0) ∷ answers_to (seven_objects 0 1 0) general (call 4 0 5 0)
    -- class N too
    ∷ answers_to (seven_objects 0 1 0) (officer ++ (call 13 0 6 0 ∷ [])) (call 12 0 6 0)
    ∷ []
    ≡ (0 ∷ 0 ∷ 0 ∷ 0 ∷ []) ∷ (0 ∷ 0 ∷ 0 ∷ 0 ∷ []) ∷ (0 ∷ 0 ∷ 0 ∷ 0 ∷ []) ∷ (0 ∷ 0 ∷ 0 ∷ 0 ∷ []) ∷ (0 ∷ 0 ∷ 0 ∷ 0 ∷ [])
    ∷ (0 ∷ 0 ∷ 0 ∷ 0 ∷ []) ∷ (0 ∷ 0 ∷ 0 ∷ 0 ∷ [])
    ∷ (0 ∷ 1 ∷ 0 ∷ 1 ∷ []) ∷ (0 ∷ 2 ∷ 0 ∷ 2 ∷ []) ∷ (0 ∷ 2 ∷ 0 ∷ 2 ∷ []) ∷ (0 ∷ 1 ∷ 0 ∷ 1 ∷ [])
    ∷ (0 ∷ 2 ∷ 0 ∷ 2 ∷ []) ∷ (0 ∷ 1 ∷ 0 ∷ 1 ∷ []) ∷ (0 ∷ 3 ∷ 0 ∷ 3 ∷ []) ∷ (0 ∷ 1 ∷ 0 ∷ 1 ∷ [])
    ∷ (0 ∷ 1 ∷ 0 ∷ 1 ∷ [])
    ∷ []
unfolding everything
fc_by_request = refl

-- SIM alone: W (delete), B (read&write-open), write after it; not read, close, read-open; create by the directory's data type
pub sim_by_request :
    answers_to (seven_objects 0 0 1) general (call 5 0 6 0) ∷ answers_to (seven_objects 0 0 1) officer (call 5 0 6 0)
    ∷ answers_to (seven_objects 0 0 1) general (call 14 0 2 0) ∷ answers_to (seven_objects 0 0 1) officer (call 14 0 2 0)
    ∷ answers_to (seven_objects 0 0 1) (officer ++ (call 14 0 2 0 ∷ [])) (call 19 0 2 0)
    ∷ answers_to (seven_objects 0 0 1) (officer ++ (call 14 0 2 0 ∷ [])) (call 12 0 2 0)
    ∷ answers_to (seven_objects 0 0 1) (officer ++ (call 14 0 2 0 ∷ [])) (call 3 0 2 0)
    ∷ answers_to (seven_objects 0 0 1) general (call 13 0 6 0) ∷ answers_to (seven_objects 0 0 1) general (call 5 0 0 0)
    ∷ answers_to (seven_objects 0 0 1) general (call 4 0 5 0) ∷ answers_to (seven_objects 0 0 1) officer (call 4 0 5 0)
    ∷ answers_to (seven_objects 0 0 1) general (call 4 0 5 2) ∷ answers_to (seven_objects 0 0 1) general (call 4 0 1 0)
    ∷ answers_to (seven_objects 0 0 1) general (call 2 0 6 0) ∷ answers_to (seven_objects 0 0 1) general (call 17 0 6 0)
    ∷ []
    ≡ (0 ∷ 0 ∷ 2 ∷ 2 ∷ []) ∷ (0 ∷ 0 ∷ 1 ∷ 1 ∷ []) ∷ (0 ∷ 0 ∷ 2 ∷ 2 ∷ []) ∷ (0 ∷ 0 ∷ 1 ∷ 1 ∷ [])
    ∷ (0 ∷ 0 ∷ 1 ∷ 1 ∷ []) ∷ (0 ∷ 0 ∷ 0 ∷ 0 ∷ []) ∷ (0 ∷ 0 ∷ 0 ∷ 0 ∷ [])
    ∷ (0 ∷ 0 ∷ 0 ∷ 0 ∷ []) ∷ (0 ∷ 0 ∷ 0 ∷ 0 ∷ [])
    ∷ (0 ∷ 0 ∷ 2 ∷ 2 ∷ []) ∷ (0 ∷ 0 ∷ 1 ∷ 1 ∷ []) ∷ (0 ∷ 0 ∷ 0 ∷ 0 ∷ []) ∷ (0 ∷ 0 ∷ 0 ∷ 0 ∷ [])
    ∷ (0 ∷ 0 ∷ 0 ∷ 0 ∷ []) ∷ (0 ∷ 0 ∷ 0 ∷ 0 ∷ [])
    ∷ []
unfolding everything
sim_by_request = refl

-- "A module that is off does not care": none, and all three; file 6 is refused by each, file 3 has no level
pub modules_together :
    answers_to (seven_objects 0 0 0) general (call 5 0 6 0) ∷ answers_to (seven_objects 0 0 0) general (call 13 0 3 0)
    ∷ answers_to (seven_objects 1 1 1) general (call 5 0 6 0) ∷ answers_to (seven_objects 1 1 1) officer (call 5 0 6 0)
    ∷ answers_to (seven_objects 1 1 1) general (call 13 0 0 0) ∷ answers_to (seven_objects 1 1 1) general (call 13 0 3 0)
    ∷ answers_to (seven_objects 1 1 1) officer (call 4 0 4 0) ∷ answers_to (seven_objects 1 1 1) officer (call 4 0 1 0)
    ∷ []
    ≡ (0 ∷ 0 ∷ 0 ∷ 0 ∷ []) ∷ (0 ∷ 0 ∷ 0 ∷ 0 ∷ [])
    ∷ (2 ∷ 2 ∷ 2 ∷ 2 ∷ []) ∷ (2 ∷ 1 ∷ 1 ∷ 2 ∷ [])
    ∷ (1 ∷ 1 ∷ 0 ∷ 1 ∷ []) ∷ (3 ∷ 1 ∷ 0 ∷ 3 ∷ [])
    ∷ (1 ∷ 3 ∷ 0 ∷ 3 ∷ []) ∷ (1 ∷ 1 ∷ 0 ∷ 1 ∷ [])
    ∷ []
unfolding everything
modules_together = refl
