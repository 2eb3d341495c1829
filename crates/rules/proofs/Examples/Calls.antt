-- "Calls": what query and enforce return, what a refused call leaves, the counter, and trusted logins.
use Rattle.answers.specs.declared.Outcome.TheVariants.{Accepted, Denied, Refused}
use Rattle.std.specs.Prelude.{ℕ, ◌≡◌, refl, true, false, List, [], ◌∷◌, ◌++◌, map, replicate, take}
use Rattle.answers.specs.Outcomes.{denies, not_cared, outcome_of, number_of, answers_of, object_number_of}
use Rattle.rules.specs.Types.{Granted, NotGranted, Undefined, Answers, Outcome, Call, Facility}
use Rattle.rules.specs.Computed.{everything, call, switches, user, object, codes, process_bytes, open_bytes, counts}
use Rattle.rules.specs.Setup.{fresh}
use Rattle.rules.specs.Calls.{object_given, query, after, enforce}
use Rattle.rules.specs.Histories.{run, outcomes, trusted_login, trusted_logins, past, owner_after, is_start, is_cloning}
use Rattle.rules.specs.Promises.{denials_in, numbers_given, up_from, denials_of, sum_to}
use Rattle.rules.proofs.Examples.SetupRecords.{files_of_level0}

-- a call's number, its object, the answers of MAC, FC and SIM, and the combined one
abbrev returned : Outcome → List ℕ
returned o = number_of o ∷ object_number_of o ∷ codes (answers_of o)

-- answers
abbrev some : Answers
some = record { mac = Granted; fc = NotGranted; sim = Undefined; ff = NotGranted; combined = Granted }

-- "Number 0 is an accepted call", 12 and 13 come with answers, 1 to 11 with none; only an accepted call has an object
pub outcome_of_number :
    outcome_of 0 some 7 ∷ outcome_of 1 some 7 ∷ outcome_of 11 some 7 ∷ outcome_of 12 some 7 ∷ outcome_of 13 some 7 ∷ []
    ≡ Accepted some 7 ∷ Refused 1 ∷ Refused 11 ∷ Denied some 12 ∷ Denied some 13 ∷ []
unfolding everything
outcome_of_number = refl

pub returned_numbers :
    returned (Accepted some 7) ∷ returned (Denied some 12) ∷ returned (Refused 5) ∷ codes not_cared ∷ []
    ≡ (0 ∷ 7 ∷ 1 ∷ 2 ∷ 3 ∷ 1 ∷ []) ∷ (12 ∷ 255 ∷ 1 ∷ 2 ∷ 3 ∷ 1 ∷ []) ∷ (5 ∷ 255 ∷ 0 ∷ 0 ∷ 0 ∷ 0 ∷ []) ∷ (0 ∷ 0 ∷ 0 ∷ 0 ∷ [])
    ∷ []
unfolding everything
returned_numbers = refl

pub denying_numbers :
    map denies (0 ∷ 1 ∷ 11 ∷ 12 ∷ 13 ∷ 14 ∷ []) ≡ false ∷ false ∷ false ∷ true ∷ true ∷ false ∷ []
unfolding everything
denying_numbers = refl

-- MAC, FC and SIM on; user 0 general of clearance 1; file 0 of level 0, file 1 of level 2, file 2 of unset level, directory 3 of level 0, more files
abbrev all_on : ℕ → Facility
all_on n =
    fresh (switches 1 1 1 ++ user 1 0 0 ++ object 0 0 0 0 ++ object 0 2 0 0 ++ object 0 255 0 0 ++ object 1 0 0 0 ++ files_of_level0 n)

-- process 0 runs
abbrev started : ℕ → Facility
started n = run (all_on n) (call 21 0 0 0 ∷ [])

abbrev returned_by : ℕ → Call → List ℕ
returned_by n c = returned (query (started n) c)

-- "numbers 1 to 11 come with four not-cared answers", each of them, though the modules have answers; and no object
pub without_answers :
    returned_by 0 (call 22 0 0 0) ∷ returned_by 0 (call 13 32 0 0) ∷ returned_by 0 (call 13 1 0 0) ∷ returned_by 0 (call 21 0 0 0)
    ∷ returned_by 0 (call 21 1 0 9) ∷ returned_by 0 (call 13 0 9 0) ∷ returned_by 0 (call 0 0 0 0) ∷ returned_by 0 (call 4 0 3 4)
    ∷ returned_by 0 (call 12 0 0 0) ∷ returned_by 124 (call 4 0 3 0) ∷ returned_by 0 (call 17 0 0 16)
    ∷ []
    ≡ (1 ∷ 255 ∷ replicate 4 0) ∷ (2 ∷ 255 ∷ replicate 4 0) ∷ (3 ∷ 255 ∷ replicate 4 0) ∷ (4 ∷ 255 ∷ replicate 4 0)
    ∷ (5 ∷ 255 ∷ replicate 4 0) ∷ (6 ∷ 255 ∷ replicate 4 0) ∷ (7 ∷ 255 ∷ replicate 4 0) ∷ (8 ∷ 255 ∷ replicate 4 0)
    ∷ (9 ∷ 255 ∷ replicate 4 0) ∷ (10 ∷ 255 ∷ replicate 4 0) ∷ (11 ∷ 255 ∷ replicate 4 0)
    ∷ []
unfolding everything
without_answers = refl

-- accepted, 12 and 13 return the modules' answers. "An accepted create returns the next object number, all else 255"
pub with_answers :
    returned_by 0 (call 13 0 0 0) ∷ returned_by 0 (call 13 0 1 0) ∷ returned_by 0 (call 13 0 2 0)
    ∷ returned_by 0 (call 4 0 3 0) ∷ returned_by 3 (call 4 0 3 1) ∷ returned_by 0 (call 4 0 9 2) ∷ returned_by 0 (call 4 0 9 3)
    ∷ returned (query (run (started 0) (call 13 0 1 0 ∷ call 4 0 9 2 ∷ [])) (call 4 0 9 2))
    -- a refused create returns none
    ∷ returned (query (fresh (switches 0 1 0 ++ user 1 0 0 ++ object 1 0 1 0)) (call 21 0 0 0))
    ∷ returned (query (run (fresh (switches 0 1 0 ++ user 1 0 0 ++ object 1 0 1 0)) (call 21 0 0 0 ∷ [])) (call 4 0 0 0))
    ∷ []
    ≡ (0 ∷ 255 ∷ 1 ∷ 1 ∷ 0 ∷ 1 ∷ []) ∷ (12 ∷ 255 ∷ 2 ∷ 1 ∷ 0 ∷ 2 ∷ []) ∷ (13 ∷ 255 ∷ 3 ∷ 1 ∷ 0 ∷ 3 ∷ [])
    ∷ (0 ∷ 4 ∷ 1 ∷ 1 ∷ 0 ∷ 1 ∷ []) ∷ (0 ∷ 7 ∷ 1 ∷ 1 ∷ 0 ∷ 1 ∷ []) ∷ (0 ∷ 4 ∷ 1 ∷ 0 ∷ 0 ∷ 1 ∷ []) ∷ (0 ∷ 4 ∷ 1 ∷ 0 ∷ 0 ∷ 1 ∷ [])
    ∷ (0 ∷ 5 ∷ 1 ∷ 0 ∷ 0 ∷ 1 ∷ [])
    ∷ (0 ∷ 255 ∷ 0 ∷ 0 ∷ 0 ∷ 0 ∷ [])
    ∷ (12 ∷ 255 ∷ 0 ∷ 2 ∷ 0 ∷ 2 ∷ [])
    ∷ []
unfolding everything
with_answers = refl

-- the number that a call would give: the next of an accepted create, 255 of a refused one and of every other request
pub numbers_given_example :
    object_given (started 0) (call 4 0 3 0) ∷ object_given (started 124) (call 4 0 3 0) ∷ object_given (started 0) (call 13 0 0 0) ∷ []
    ≡ 4 ∷ 255 ∷ 255 ∷ []
unfolding everything
numbers_given_example = refl

-- "Query gives what enforce would"; the facility is the one after the call
pub enforced :
    map (λ c. returned (enforce (started 0) c).outcome) (call 13 0 0 0 ∷ call 13 0 1 0 ∷ call 4 0 3 0 ∷ call 22 0 0 0 ∷ [])
    ∷ map (λ c. counts (enforce (started 0) c).facility) (call 13 0 0 0 ∷ call 13 0 1 0 ∷ call 4 0 3 0 ∷ call 22 0 0 0 ∷ [])
    ∷ []
    ≡ ((0 ∷ 255 ∷ 1 ∷ 1 ∷ 0 ∷ 1 ∷ []) ∷ (12 ∷ 255 ∷ 2 ∷ 1 ∷ 0 ∷ 2 ∷ []) ∷ (0 ∷ 4 ∷ 1 ∷ 1 ∷ 0 ∷ 1 ∷ []) ∷ (1 ∷ 255 ∷ replicate 4 0) ∷ [])
    ∷ ((1 ∷ 1 ∷ 1 ∷ 1 ∷ 4 ∷ 0 ∷ []) ∷ (1 ∷ 1 ∷ 1 ∷ 1 ∷ 4 ∷ 1 ∷ []) ∷ (1 ∷ 1 ∷ 1 ∷ 1 ∷ 5 ∷ 0 ∷ []) ∷ (1 ∷ 1 ∷ 1 ∷ 1 ∷ 4 ∷ 0 ∷ []) ∷ [])
    ∷ []
unfolding everything
enforced = refl

-- 12s and 13s are counted, other refusals are not: level 2 above clearance 1, an unset level, an object that is not there
pub counted_refusals :
    (run (fresh (switches 1 0 0 ++ user 1 0 0 ++ object 0 2 0 0 ++ object 0 255 0 0))
    (call 21 0 0 0 ∷ call 13 0 0 0 ∷ call 13 0 1 0 ∷ call 13 0 2 0 ∷ call 13 0 0 0 ∷ [])).refusals
    ≡ 3 ∷ replicate 15 0
unfolding everything
counted_refusals = refl

-- three users, and calls: process 0 is user 1's and so is its clone 2, process 1 is user 0's and later user 2's; process 1 signals process 0
abbrev office : Facility
office = fresh (switches 1 0 0 ++ user 1 0 0 ++ user 1 0 0 ++ user 1 0 0 ++ object 0 2 0 0 ++ object 0 1 0 0)

abbrev signalled : List Call
signalled =
    call 21 0 0 1 ∷ call 21 1 0 0 ∷ call 2 0 2 0 ∷ call 13 0 1 0 ∷ call 13 0 0 0 ∷ call 13 2 0 0 ∷ call 16 1 0 0 ∷ call 13 1 0 0
    ∷ call 18 1 0 0 ∷ call 21 1 0 2 ∷ call 13 1 0 0 ∷ call 13 3 0 0 ∷ []

-- Ticket 1, "counted for the owner of the calling process": a signal is the caller's and not the receiver's, and what a process did stays its
-- owner's after it terminated
pub refusals_by_user :
    map (λ n. (run office (take n signalled)).refusals) (5 ∷ 6 ∷ 7 ∷ 8 ∷ 10 ∷ 11 ∷ 12 ∷ [])
    ≡ (0 ∷ 1 ∷ replicate 14 0) ∷ (0 ∷ 2 ∷ replicate 14 0) ∷ (1 ∷ 2 ∷ replicate 14 0) ∷ (2 ∷ 2 ∷ replicate 14 0) ∷ (2 ∷ 2 ∷ replicate 14 0)
    ∷ (2 ∷ 2 ∷ 1 ∷ replicate 13 0) ∷ (2 ∷ 2 ∷ 1 ∷ replicate 13 0) ∷ []
unfolding everything
refusals_by_user = refl

-- what the history tells: who owns processes 0 to 3 before and after the later login, and that a refused login and a refused clone make no owner;
-- and whose the denials are
pub owners_told :
    map (owner_after (past office (take 8 signalled) [])) (0 ∷ 1 ∷ 2 ∷ 3 ∷ [])
    ∷ map (owner_after (past office signalled [])) (0 ∷ 1 ∷ 2 ∷ 3 ∷ [])
    ∷ map (owner_after (past office (call 21 0 0 1 ∷ call 21 0 0 2 ∷ call 21 1 0 2 ∷ call 2 0 1 0 ∷ []) [])) (0 ∷ 1 ∷ [])
    ∷ []
    ≡ (1 ∷ 0 ∷ 1 ∷ 0 ∷ []) ∷ (1 ∷ 2 ∷ 1 ∷ 0 ∷ []) ∷ (1 ∷ 2 ∷ []) ∷ []
unfolding everything past owner_after is_start is_cloning
owners_told = refl

pub denials_told : map (λ u. denials_of u (past office signalled [])) (0 ∷ 1 ∷ 2 ∷ 3 ∷ []) ≡ 2 ∷ 2 ∷ 1 ∷ 0 ∷ []
unfolding everything past owner_after is_start is_cloning denials_of
denials_told = refl

-- all denials of a history, and the numbers that its accepted creates give: not those of a refused one, nor of another request
pub histories_counted :
    denials_in (outcomes office signalled) ∷ numbers_given office (call 21 0 0 1 ∷ call 4 0 0 2 ∷ call 4 1 0 2 ∷ call 13 0 1 0
    ∷ call 4 0 9 0 ∷ call 4 0 0 3 ∷ [])
    ≡ 5 ∷ up_from 2 2
unfolding everything denials_in numbers_given up_from
histories_counted = refl

pub counted_up : up_from 2 0 ∷ up_from 2 3 ∷ [] ≡ [] ∷ (2 ∷ 3 ∷ 4 ∷ []) ∷ []
unfolding up_from
counted_up = refl

pub summed : map (λ n. sum_to n (λ k. k)) (0 ∷ 1 ∷ 2 ∷ 3 ∷ 4 ∷ []) ≡ 0 ∷ 0 ∷ 1 ∷ 3 ∷ 6 ∷ []
unfolding sum_to
summed = refl

-- a call that MAC grants and FC does not: the counter goes up, levels, marks and opens stay
pub refused_by_fc :
    process_bytes (run (fresh (switches 1 1 0 ++ user 5 0 0 ++ object 0 3 1 0)) (call 21 0 0 0 ∷ call 13 0 0 0 ∷ call 14 0 0 0 ∷ [])) 0
    ∷ open_bytes (run (fresh (switches 1 1 0 ++ user 5 0 0 ++ object 0 3 1 0)) (call 21 0 0 0 ∷ call 13 0 0 0 ∷ call 14 0 0 0 ∷ [])) 0 1
    ∷ counts (run (fresh (switches 1 1 0 ++ user 5 0 0 ++ object 0 3 1 0)) (call 21 0 0 0 ∷ call 13 0 0 0 ∷ call 14 0 0 0 ∷ []))
    ∷ []
    ≡ (1 ∷ 0 ∷ 0 ∷ 0 ∷ 15 ∷ 1 ∷ []) ∷ (0 ∷ []) ∷ (1 ∷ 1 ∷ 0 ∷ 1 ∷ 1 ∷ 2 ∷ []) ∷ []
unfolding everything
refused_by_fc = refl

-- "the first call gets the fresh facility of the set-up, each later one the facility that the call before it returned"
pub outcomes_in_turn :
    map returned (outcomes (all_on 0) (call 13 0 0 0 ∷ call 21 0 0 0 ∷ call 13 0 0 0 ∷ call 13 0 1 0 ∷ call 12 0 0 0 ∷ []))
    ∷ map returned (outcomes (all_on 0) [])
    ∷ (counts (run (all_on 0) []) ∷ [])
    ∷ []
    ≡ ((3 ∷ 255 ∷ replicate 4 0) ∷ (0 ∷ 255 ∷ 1 ∷ 0 ∷ 0 ∷ 1 ∷ []) ∷ (0 ∷ 255 ∷ 1 ∷ 1 ∷ 0 ∷ 1 ∷ []) ∷ (12 ∷ 255 ∷ 2 ∷ 1 ∷ 0 ∷ 2 ∷ [])
    ∷ (0 ∷ 255 ∷ 1 ∷ 1 ∷ 0 ∷ 1 ∷ []) ∷ [])
    ∷ []
    ∷ ((1 ∷ 1 ∷ 1 ∷ 1 ∷ 4 ∷ 0 ∷ []) ∷ [])
    ∷ []
unfolding everything
outcomes_in_turn = refl

-- user 0 is trusted, user 1 is not
abbrev two_users : Facility
two_users = fresh (switches 1 0 0 ++ user 1 0 1 ++ user 1 0 0)

-- "A trusted login is an accepted login of a trusted user": not a refused one, not of user 1, not another request
pub trusted_logins_example :
    (trusted_login two_users (call 21 0 0 0) ∷ trusted_login two_users (call 21 0 0 1) ∷ trusted_login two_users (call 21 32 0 0)
    ∷ trusted_login (after two_users (call 21 0 0 1)) (call 21 0 0 0) ∷ trusted_login (after two_users (call 21 0 0 1)) (call 17 0 0 0)
    ∷ trusted_login (after two_users (call 21 0 0 1)) (call 21 1 0 0) ∷ [])
    ∷ (trusted_logins two_users [] ∷ trusted_logins two_users (call 21 0 0 1 ∷ call 21 0 0 0 ∷ [])
    ∷ trusted_logins two_users (call 21 0 0 1 ∷ call 21 1 0 0 ∷ []) ∷ trusted_logins two_users (call 21 0 0 0 ∷ call 18 0 0 0 ∷ []) ∷ [])
    ∷ []
    ≡ (true ∷ false ∷ false ∷ false ∷ false ∷ true ∷ []) ∷ (false ∷ false ∷ true ∷ true ∷ []) ∷ []
unfolding everything
trusted_logins_example = refl
