-- Rules on two things at once: trusted owners and officers under SIM and FF, modules beside each other, every role and trust with labels of which none
-- dominates the other, all switches, labels that lose a category, moves of the set alone, flags without add-inherited, sets in set-ups, and the lines of
-- requests on two processes.
use Rattle.std.specs.Prelude.{ℕ, ◌+◌, ◌*◌, ◌≡◌, refl, List, [], ◌∷◌, ◌++◌, map, replicate}
use Rattle.labels.specs.Decisions.{at}
use Rattle.answers.specs.Answers.{code}
use Rattle.answers.specs.Outcomes.{answers_of, number_of}
use Rattle.state.specs.State.{objects_in, process_of}
use Rattle.rules.specs.Types.{Call, Facility}
use Rattle.rules.specs.FileFlags.{effective}
use Rattle.rules.specs.Setup.{fresh}
use Rattle.rules.specs.Calls.{query}
use Rattle.rules.specs.Histories.{run, past, moves_of}
use Rattle.rules.specs.Lines.{output}
use Rattle.rules.specs.Text.{ascii}
use Rattle.rules.specs.Computed.{everything, numbers_from, call, switches, switches_with, user, object, flagged_object, process_bytes, category_bytes}
use Rattle.rules.proofs.Examples.SetupRecords.{number_and_index}

-- the eight bytes of one record
abbrev bytes : ℕ → ℕ → ℕ → ℕ → ℕ → ℕ → ℕ → ℕ → List ℕ
bytes kind one two three four five six seven = kind ∷ one ∷ two ∷ three ∷ four ∷ five ∷ six ∷ seven ∷ []

-- the sixteen ways to set the switches
abbrev switchings : List (List ℕ)
switchings =
    (0 ∷ 0 ∷ 0 ∷ 0 ∷ []) ∷ (0 ∷ 0 ∷ 0 ∷ 1 ∷ []) ∷ (0 ∷ 0 ∷ 1 ∷ 0 ∷ []) ∷ (0 ∷ 0 ∷ 1 ∷ 1 ∷ [])
    ∷ (0 ∷ 1 ∷ 0 ∷ 0 ∷ []) ∷ (0 ∷ 1 ∷ 0 ∷ 1 ∷ []) ∷ (0 ∷ 1 ∷ 1 ∷ 0 ∷ []) ∷ (0 ∷ 1 ∷ 1 ∷ 1 ∷ [])
    ∷ (1 ∷ 0 ∷ 0 ∷ 0 ∷ []) ∷ (1 ∷ 0 ∷ 0 ∷ 1 ∷ []) ∷ (1 ∷ 0 ∷ 1 ∷ 0 ∷ []) ∷ (1 ∷ 0 ∷ 1 ∷ 1 ∷ [])
    ∷ (1 ∷ 1 ∷ 0 ∷ 0 ∷ []) ∷ (1 ∷ 1 ∷ 0 ∷ 1 ∷ []) ∷ (1 ∷ 1 ∷ 1 ∷ 0 ∷ []) ∷ (1 ∷ 1 ∷ 1 ∷ 1 ∷ []) ∷ []

-- Users 0 general, 1 general and trusted, 2 security officer, 3 security officer and trusted. File 0 is read-only, file 1 security information, file 2
-- both; file 3 has no level, file 4 no level and is read-only, file 5 is of category security.
abbrev office : ℕ → ℕ → ℕ → ℕ → Facility
office mac fc sim ff =
    fresh
    (bytes 3 mac fc sim ff 0 0 0 ++ user 2 0 0 ++ user 2 0 1 ++ user 2 1 0 ++ user 2 1 1
    ++ bytes 2 0 0 0 0 1 0 0 ++ object 0 0 0 1 ++ bytes 2 0 0 0 1 1 0 0 ++ object 0 255 0 0 ++ bytes 2 0 255 0 0 1 0 0 ++ object 0 0 1 0)

-- the answers of MAC, FC, SIM and FF and the number of a write-open of each file, by process 0 of user u
abbrev judged : Facility → ℕ → List (List ℕ)
judged f u =
    map (λ t. let o = query (run f (call 21 0 0 u ∷ [])) (call 20 0 t 0) in
    code (answers_of o).mac ∷ code (answers_of o).fc ∷ code (answers_of o).sim ∷ code (answers_of o).ff ∷ number_of o ∷ [])
    (0 ∷ 1 ∷ 2 ∷ 3 ∷ 4 ∷ 5 ∷ [])

-- SIM and FF alone: FF judges everybody alike, SIM asks the role and not the trust
pub sim_and_ff :
    map (judged (office 0 0 1 1)) (0 ∷ 1 ∷ 2 ∷ 3 ∷ [])
    ≡ ((0 ∷ 0 ∷ 0 ∷ 2 ∷ 12 ∷ []) ∷ (0 ∷ 0 ∷ 2 ∷ 0 ∷ 12 ∷ []) ∷ (0 ∷ 0 ∷ 2 ∷ 2 ∷ 12 ∷ []) ∷ (0 ∷ 0 ∷ 0 ∷ 0 ∷ 0 ∷ []) ∷ (0 ∷ 0 ∷ 0 ∷ 2 ∷ 12 ∷ [])
    ∷ (0 ∷ 0 ∷ 0 ∷ 0 ∷ 0 ∷ []) ∷ [])
    ∷ ((0 ∷ 0 ∷ 0 ∷ 2 ∷ 12 ∷ []) ∷ (0 ∷ 0 ∷ 2 ∷ 0 ∷ 12 ∷ []) ∷ (0 ∷ 0 ∷ 2 ∷ 2 ∷ 12 ∷ []) ∷ (0 ∷ 0 ∷ 0 ∷ 0 ∷ 0 ∷ []) ∷ (0 ∷ 0 ∷ 0 ∷ 2 ∷ 12 ∷ [])
    ∷ (0 ∷ 0 ∷ 0 ∷ 0 ∷ 0 ∷ []) ∷ [])
    ∷ ((0 ∷ 0 ∷ 0 ∷ 2 ∷ 12 ∷ []) ∷ (0 ∷ 0 ∷ 1 ∷ 0 ∷ 0 ∷ []) ∷ (0 ∷ 0 ∷ 1 ∷ 2 ∷ 12 ∷ []) ∷ (0 ∷ 0 ∷ 0 ∷ 0 ∷ 0 ∷ []) ∷ (0 ∷ 0 ∷ 0 ∷ 2 ∷ 12 ∷ [])
    ∷ (0 ∷ 0 ∷ 0 ∷ 0 ∷ 0 ∷ []) ∷ [])
    ∷ ((0 ∷ 0 ∷ 0 ∷ 2 ∷ 12 ∷ []) ∷ (0 ∷ 0 ∷ 1 ∷ 0 ∷ 0 ∷ []) ∷ (0 ∷ 0 ∷ 1 ∷ 2 ∷ 12 ∷ []) ∷ (0 ∷ 0 ∷ 0 ∷ 0 ∷ 0 ∷ []) ∷ (0 ∷ 0 ∷ 0 ∷ 2 ∷ 12 ∷ [])
    ∷ (0 ∷ 0 ∷ 0 ∷ 0 ∷ 0 ∷ []) ∷ [])
    ∷ []
unfolding everything
sim_and_ff = refl

-- all four on: each module as alone; an unset level with a forbidding flag is undefined (13), and FF does not mind the level
pub all_four :
    map (judged (office 1 1 1 1)) (0 ∷ 3 ∷ [])
    ≡ ((1 ∷ 1 ∷ 0 ∷ 2 ∷ 12 ∷ []) ∷ (1 ∷ 1 ∷ 2 ∷ 0 ∷ 12 ∷ []) ∷ (1 ∷ 1 ∷ 2 ∷ 2 ∷ 12 ∷ []) ∷ (3 ∷ 1 ∷ 0 ∷ 0 ∷ 13 ∷ []) ∷ (3 ∷ 1 ∷ 0 ∷ 2 ∷ 13 ∷ [])
    ∷ (1 ∷ 2 ∷ 0 ∷ 0 ∷ 12 ∷ []) ∷ [])
    ∷ ((1 ∷ 1 ∷ 0 ∷ 2 ∷ 12 ∷ []) ∷ (1 ∷ 1 ∷ 1 ∷ 0 ∷ 0 ∷ []) ∷ (1 ∷ 1 ∷ 1 ∷ 2 ∷ 12 ∷ []) ∷ (3 ∷ 1 ∷ 0 ∷ 0 ∷ 13 ∷ []) ∷ (3 ∷ 1 ∷ 0 ∷ 2 ∷ 13 ∷ [])
    ∷ (1 ∷ 1 ∷ 0 ∷ 0 ∷ 0 ∷ []) ∷ [])
    ∷ []
unfolding everything
all_four = refl

-- whichever of FC, SIM and FF are on: what set-level, a read, clone, signal and terminate leave is what they leave with MAC alone; with MAC off no level moves
pub effects_with_all :
    map (λ s. map (process_bytes (run (office (at s 0) (at s 1) (at s 2) (at s 3))
    (call 21 0 0 0 ∷ call 17 0 0 2 ∷ call 13 0 1 0 ∷ call 2 0 1 0 ∷ call 16 0 1 0 ∷ call 21 2 0 0 ∷ call 18 2 0 0 ∷ []))) (0 ∷ 1 ∷ 2 ∷ [])) switchings
    ≡ replicate 8 ((1 ∷ 0 ∷ 0 ∷ 0 ∷ 15 ∷ 1 ∷ []) ∷ (1 ∷ 0 ∷ 0 ∷ 0 ∷ 15 ∷ 1 ∷ []) ∷ (0 ∷ 0 ∷ 0 ∷ 0 ∷ 0 ∷ 0 ∷ []) ∷ [])
    ++ replicate 8 ((1 ∷ 0 ∷ 2 ∷ 0 ∷ 15 ∷ 0 ∷ []) ∷ (1 ∷ 0 ∷ 2 ∷ 2 ∷ 15 ∷ 0 ∷ []) ∷ (0 ∷ 0 ∷ 0 ∷ 0 ∷ 0 ∷ 0 ∷ []) ∷ [])
unfolding everything
effects_with_all = refl

-- MAC on; users 0 of clearance 2 with {a, b} and 1 trusted of clearance 0 with none; files 0 {a}, 1 {b}, 2 {a, b} of level 1, file 3 of level 0 with none
abbrev projects : List ℕ
projects =
    switches 1 0 0 ++ bytes 1 2 0 0 3 0 0 0 ++ bytes 1 0 0 1 0 0 0 0 ++ bytes 2 0 1 0 0 0 0 1 ++ bytes 2 0 1 0 0 0 0 2 ++ bytes 2 0 1 0 0 0 0 3
    ++ object 0 0 0 0

-- the numbers of the calls, then levels and categories of process 0
abbrev labelled : List Call → List (List ℕ)
labelled cs =
    numbers_from (fresh projects) cs ∷ process_bytes (run (fresh projects) cs) 0 ∷ category_bytes (run (fresh projects) cs) 0 ∷ []

pub categories_lost :
    -- W to {a, b} and then to {a}: nothing was read, so the category may go
    labelled (call 21 0 0 0 ∷ call 20 0 2 0 ∷ call 20 0 0 0 ∷ [])
    -- set-level to {a, b}, to {a}, to {b}
    ∷ labelled (call 21 0 0 0 ∷ call 17 0 3 1 ∷ call 17 0 1 1 ∷ call 17 0 2 1 ∷ [])
    -- automatic off at {a, b}: what is below is read, with one category and with none
    ∷ labelled (call 21 0 0 0 ∷ call 17 0 3 1 ∷ call 13 0 3 0 ∷ call 13 0 0 0 ∷ [])
    -- a trusted owner without a category reads and writes {a}, and signals a process at {a, b}
    ∷ labelled (call 21 0 0 1 ∷ call 14 0 0 0 ∷ call 21 1 0 0 ∷ call 13 1 2 0 ∷ call 16 0 1 0 ∷ [])
    ∷ []
    ≡ ((0 ∷ 0 ∷ 0 ∷ []) ∷ (1 ∷ 0 ∷ 1 ∷ 0 ∷ 1 ∷ 1 ∷ []) ∷ (1 ∷ 0 ∷ 1 ∷ []) ∷ [])
    ∷ ((0 ∷ 0 ∷ 0 ∷ 0 ∷ []) ∷ (1 ∷ 0 ∷ 1 ∷ 0 ∷ 15 ∷ 0 ∷ []) ∷ (2 ∷ 0 ∷ 255 ∷ []) ∷ [])
    ∷ ((0 ∷ 0 ∷ 0 ∷ 0 ∷ []) ∷ (1 ∷ 0 ∷ 1 ∷ 1 ∷ 15 ∷ 0 ∷ []) ∷ (3 ∷ 1 ∷ 255 ∷ []) ∷ [])
    ∷ ((0 ∷ 0 ∷ 0 ∷ 0 ∷ 0 ∷ []) ∷ (1 ∷ 1 ∷ 0 ∷ 0 ∷ 15 ∷ 1 ∷ []) ∷ (0 ∷ 0 ∷ 255 ∷ []) ∷ [])
    ∷ []
unfolding everything numbers_from
categories_lost = refl

-- a change of the categories alone is a move, up by R and down by W
pub moves_of_the_set :
    map (λ cs. (process_of (run (fresh projects) cs) 0).moves ∷ moves_of (past (fresh projects) cs []) 0 ∷ [])
    ((call 21 0 0 0 ∷ call 13 0 0 0 ∷ call 13 0 1 0 ∷ []) ∷ (call 21 0 0 0 ∷ call 20 0 2 0 ∷ call 20 0 0 0 ∷ []) ∷ [])
    ≡ (2 ∷ 2 ∷ []) ∷ (2 ∷ 2 ∷ []) ∷ []
unfolding everything
moves_of_the_set = refl

-- directory 0 forbids execute; file 1 in it is read-only, without add-inherited; file 2 has both
pub own_flags_alone :
    map (effective (objects_in (fresh (switches_with 0 1 ++ user 0 0 0 ++ flagged_object 1 0 2 0 ++ flagged_object 0 0 1 1 ++ flagged_object 0 0 129 1))))
    (0 ∷ 1 ∷ 2 ∷ [])
    ≡ 2 ∷ 1 ∷ 131 ∷ []
unfolding everything
own_flags_alone = refl

-- "object byte 7 .. must be 0 where the level is unset": each set; not where the category is unset, and for every kind
pub sets_in_setups :
    map (λ o. number_and_index (switches 1 0 0 ++ o))
    (bytes 2 0 255 0 0 0 0 2 ∷ bytes 2 0 255 0 0 0 0 128 ∷ bytes 2 0 255 0 0 0 0 255 ∷ bytes 2 0 1 255 0 0 0 3
    ∷ bytes 2 1 1 0 0 0 0 3 ∷ bytes 2 2 1 0 0 0 0 3 ∷ bytes 2 3 1 0 0 0 0 3 ∷ [])
    ≡ replicate 3 (17 ∷ 1 ∷ []) ++ replicate 4 (0 ∷ 0 ∷ [])
unfolding everything
sets_in_setups = refl

-- "p's current level", also where t is a process: a clone, and signals between levels 1 and 0, both refused
pub lines_of_two :
    output projects
    (21 ∷ 0 ∷ 0 ∷ 0 ∷ 2 ∷ 0 ∷ 1 ∷ 0 ∷ 13 ∷ 1 ∷ 0 ∷ 0 ∷ 16 ∷ 1 ∷ 0 ∷ 0 ∷ 16 ∷ 0 ∷ 1 ∷ 0 ∷ 2 ∷ 1 ∷ 0 ∷ 0 ∷ [])
    ≡ ascii "1 21 0 0 0 0 1 0\n2 2 0 1 0 0 1 0\n3 13 1 0 0 0 1 1\n4 16 1 0 0 12 2 1\n5 16 0 1 0 12 2 0\n6 2 1 0 0 4 0 1\n"
unfolding everything
lines_of_two = refl

-- All six kinds of users, roles 0, 1 and 2, each untrusted and trusted, of clearance 2 with {a, b}. Files 0 of level 0, 1 {a}, 2 {b}, 3 {c}; 4 without a
-- level, read-only; 5 {a} of category security; 6 {a} of category system, security information; 7 {a, b} without a category. Directory 8 {a}, security
-- information, read-only; file 9 {a} in it, of category security, which inherits. Channel 10 {a}, security information. Control data 11 of level 2 with
-- {a, b}, of category system, security information, not to be deleted. All but 0, 4 and 11 are of level 1.
abbrev everybody : ℕ → ℕ → ℕ → ℕ → Facility
everybody mac fc sim ff =
    fresh
    (bytes 3 mac fc sim ff 0 0 0 ++ bytes 1 2 0 0 3 0 0 0 ++ bytes 1 2 0 1 3 0 0 0 ++ bytes 1 2 1 0 3 0 0 0 ++ bytes 1 2 1 1 3 0 0 0
    ++ bytes 1 2 2 0 3 0 0 0 ++ bytes 1 2 2 1 3 0 0 0
    ++ bytes 2 0 0 0 0 0 0 0 ++ bytes 2 0 1 0 0 0 0 1 ++ bytes 2 0 1 0 0 0 0 2 ++ bytes 2 0 1 0 0 0 0 4 ++ bytes 2 0 255 0 0 1 0 0
    ++ bytes 2 0 1 1 0 0 0 1 ++ bytes 2 0 1 2 1 0 0 1 ++ bytes 2 0 1 255 0 0 0 3 ++ bytes 2 1 1 0 1 1 0 1 ++ bytes 2 0 1 1 0 128 9 1
    ++ bytes 2 2 1 0 1 0 0 1 ++ bytes 2 3 2 2 1 4 0 3)

-- the answers of MAC, FC, SIM and FF and the combined one, as the digits of a number
abbrev digits : Facility → Call → ℕ
digits f c =
    let a = answers_of (query f c) in
    code a.mac * 10000 + code a.fc * 1000 + code a.sim * 100 + code a.ff * 10 + code a.combined

-- each user's process has read {a}: read-open of {b}, of {c}, without a level, of security, without a category; write-open of level 0, of {a}, of {b}, of
-- security information, of the shielded file; read&write-open of {a} and of {a, b}; read of, search in and create in the directory; read&write-open and
-- alter of the channel; get-status-data, modify-access-data and delete of the control data
pub roles_and_trust :
    map (λ u. map (digits (run (everybody 1 1 1 1) (call 21 0 0 u ∷ call 13 0 1 0 ∷ [])))
    (call 13 0 2 0 ∷ call 13 0 3 0 ∷ call 13 0 4 0 ∷ call 13 0 5 0 ∷ call 13 0 7 0 ∷ call 20 0 0 0 ∷ call 20 0 1 0 ∷ call 20 0 2 0 ∷ call 20 0 6 0
    ∷ call 20 0 9 0 ∷ call 14 0 1 0 ∷ call 14 0 7 0 ∷ call 12 0 8 0 ∷ call 15 0 8 0 ∷ call 4 0 8 0 ∷ call 14 0 10 0 ∷ call 0 0 10 0
    ∷ call 9 0 11 0 ∷ call 10 0 11 0 ∷ call 5 0 11 0 ∷ [])) (0 ∷ 1 ∷ 2 ∷ 3 ∷ 4 ∷ 5 ∷ [])
    ≡ (11001 ∷ 21002 ∷ 31003 ∷ 12002 ∷ 13003 ∷ 21002 ∷ 11001 ∷ 21002 ∷ 12202 ∷ 12022
    ∷ 11001 ∷ 13003 ∷ 11001 ∷ 11001 ∷ 11222 ∷ 11202 ∷ 11202 ∷ 12002 ∷ 12202 ∷ 12222 ∷ [])
    ∷ (11001 ∷ 11001 ∷ 31003 ∷ 12002 ∷ 13003 ∷ 11001 ∷ 11001 ∷ 11001 ∷ 12202 ∷ 12022
    ∷ 11001 ∷ 13003 ∷ 11001 ∷ 11001 ∷ 11222 ∷ 11202 ∷ 11202 ∷ 12002 ∷ 12202 ∷ 12222 ∷ [])
    ∷ (11001 ∷ 21002 ∷ 31003 ∷ 11001 ∷ 13003 ∷ 21002 ∷ 11001 ∷ 21002 ∷ 12102 ∷ 11022
    ∷ 11001 ∷ 13003 ∷ 11001 ∷ 11001 ∷ 11122 ∷ 11101 ∷ 11101 ∷ 12002 ∷ 12102 ∷ 12122 ∷ [])
    ∷ (11001 ∷ 11001 ∷ 31003 ∷ 11001 ∷ 13003 ∷ 11001 ∷ 11001 ∷ 11001 ∷ 12102 ∷ 11022
    ∷ 11001 ∷ 13003 ∷ 11001 ∷ 11001 ∷ 11122 ∷ 11101 ∷ 11101 ∷ 12002 ∷ 12102 ∷ 12122 ∷ [])
    ∷ (11001 ∷ 21002 ∷ 31003 ∷ 12002 ∷ 13003 ∷ 21002 ∷ 11001 ∷ 21002 ∷ 11202 ∷ 12022
    ∷ 11001 ∷ 13003 ∷ 11001 ∷ 11001 ∷ 11222 ∷ 11202 ∷ 11202 ∷ 11001 ∷ 11202 ∷ 11222 ∷ [])
    ∷ (11001 ∷ 11001 ∷ 31003 ∷ 12002 ∷ 13003 ∷ 11001 ∷ 11001 ∷ 11001 ∷ 11202 ∷ 12022
    ∷ 11001 ∷ 13003 ∷ 11001 ∷ 11001 ∷ 11222 ∷ 11202 ∷ 11202 ∷ 11001 ∷ 11202 ∷ 11222 ∷ [])
    ∷ []
unfolding everything
roles_and_trust = refl

-- every module off and on beside every other, MAC's switch first: user 0 writes the file without a level, officer 2, as process 1, the shielded file,
-- administrator 4, as process 2, modifies the control data
pub switches_together :
    map (λ s. map (digits (run (everybody (at s 0) (at s 1) (at s 2) (at s 3)) (call 21 0 0 0 ∷ call 21 1 0 2 ∷ call 21 2 0 4 ∷ [])))
    (call 20 0 4 0 ∷ call 20 1 9 0 ∷ call 10 2 11 0 ∷ []))
    switchings
    ≡ (0 ∷ 0 ∷ 0 ∷ [])
    ∷ (22 ∷ 22 ∷ 0 ∷ [])
    ∷ (0 ∷ 0 ∷ 202 ∷ [])
    ∷ (22 ∷ 22 ∷ 202 ∷ [])
    ∷ (1001 ∷ 1001 ∷ 1001 ∷ [])
    ∷ (1022 ∷ 1022 ∷ 1001 ∷ [])
    ∷ (1001 ∷ 1001 ∷ 1202 ∷ [])
    ∷ (1022 ∷ 1022 ∷ 1202 ∷ [])
    ∷ (30003 ∷ 10001 ∷ 10001 ∷ [])
    ∷ (30023 ∷ 10022 ∷ 10001 ∷ [])
    ∷ (30003 ∷ 10001 ∷ 10202 ∷ [])
    ∷ (30023 ∷ 10022 ∷ 10202 ∷ [])
    ∷ (31003 ∷ 11001 ∷ 11001 ∷ [])
    ∷ (31023 ∷ 11022 ∷ 11001 ∷ [])
    ∷ (31003 ∷ 11001 ∷ 11202 ∷ [])
    ∷ (31023 ∷ 11022 ∷ 11202 ∷ [])
    ∷ []
unfolding everything
switches_together = refl
