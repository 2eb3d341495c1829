-- What C is given, computed: no two fields have the same value in each example, so that none can stand for another.
use Rattle.std.specs.Prelude.{ℕ, ◌≡◌, refl, List, [], ◌∷◌, ◌++◌, map}
use Rattle.answers.specs.declared.Answer.TheVariants.{NotCared, Granted, NotGranted, Undefined}
use Rattle.answers.specs.declared.Outcome.TheVariants.{Accepted, Denied, Refused}
use Rattle.answers.specs.Outcomes.{answers_from, number_of, outcome_numbers}
use Rattle.state.specs.declared.Facility.{Facility}
use Rattle.state.specs.State.{blank, objects_in, processes_in, put_marks, users_in, with}
use Rattle.rules.specs.Calls.{after, query}
use Rattle.rules.specs.Computed.{everything, call, switches, user}
use Rattle.rules.specs.Setup.{fresh}
use Rattle.answers.specs.declared.CallOutcome.{CallOutcome}
use Rattle.hvozdalka.specs.declared.SeatedCall.{SeatedCall}
use Rattle.hvozdalka.specs.declared.Summary.{Summary}
use Rattle.hvozdalka.specs.Numbers.{call_of, number_at, open_marks, summary_of}

-- the fields of an outcome, in the order of the header
abbrev outcome_fields : CallOutcome → List ℕ
outcome_fields o = o.number ∷ o.mac ∷ o.fc ∷ o.sim ∷ o.combined ∷ o.object ∷ o.ff ∷ []

-- two denied calls, in which each module has another answer, an accepted create, and a call that was refused before the modules were asked
pub outcomes_given :
    map (λ o. outcome_fields (outcome_numbers o))
    (Denied (answers_from NotCared Granted NotGranted Undefined) 13
    ∷ Denied (answers_from Undefined NotCared Granted NotGranted) 13
    ∷ Accepted (answers_from Granted NotCared Granted NotCared) 7
    ∷ Refused 5
    ∷ [])
    ≡ (13 ∷ 0 ∷ 1 ∷ 2 ∷ 3 ∷ 255 ∷ 3 ∷ [])
    ∷ (13 ∷ 3 ∷ 0 ∷ 1 ∷ 3 ∷ 255 ∷ 2 ∷ [])
    ∷ (0 ∷ 1 ∷ 0 ∷ 1 ∷ 1 ∷ 7 ∷ 0 ∷ [])
    ∷ (5 ∷ 0 ∷ 0 ∷ 0 ∷ 0 ∷ 255 ∷ 0 ∷ [])
    ∷ []
unfolding everything
outcomes_given = refl

-- bytes that no set-up and no call makes: each switch another number, 4 users, 5 objects
abbrev marked : Facility
marked =
    let f = blank (record { mac = 1; fc = 2; sim = 3; ff = 6 }) in
    put_marks (put_marks (put_marks (with f 4 (users_in f) 5 (objects_in f) (processes_in f) f.opens f.refusals) 0 1 5) 1 0 6) 1 1 7

abbrev summary_fields : Summary → List ℕ
summary_fields s = s.mac ∷ s.fc ∷ s.sim ∷ s.users ∷ s.entered ∷ s.ff ∷ []

pub summary_given : summary_fields (summary_of marked) ≡ 1 ∷ 2 ∷ 3 ∷ 4 ∷ 5 ∷ 6 ∷ []
unfolding everything
summary_given = refl

-- of process 0 and of process 1 on objects 0 and 1: the third bit of a byte is no mark
pub marks_given : map (λ p. map (open_marks marked p) (0 ∷ 1 ∷ [])) (0 ∷ 1 ∷ []) ≡ (0 ∷ 1 ∷ []) ∷ (2 ∷ 3 ∷ []) ∷ []
unfolding everything open_marks
marks_given = refl

-- calls of a desktop: request r at a seat
abbrev handed : ℕ → ℕ → SeatedCall
handed r seat = record { request = r; process = 0; target = 0; extra = 0; seat = seat }

-- the call of seat 0 is that of its four bytes; at another seat there is no process, whatever the number
pub calls_handed :
    call_of (record { request = 21; process = 7; target = 5; extra = 3; seat = 0 })
    ∷ map (λ s. call_of (record { request = 21; process = 7; target = 5; extra = 3; seat = s })) (1 ∷ 255 ∷ [])
    ≡ call 21 7 5 3 ∷ call 21 255 5 3 ∷ call 21 255 5 3 ∷ []
unfolding everything call_of number_at
calls_handed = refl

-- a login at seat 0 of a facility with a user is accepted, and of other seats refused with 2; a request that is none with 1 at every seat
pub seats_numbered :
    map (λ r. map (λ s. number_of (query (fresh (switches 1 1 1 ++ user 1 0 0)) (call_of (handed r s)))) (0 ∷ 1 ∷ 255 ∷ [])) (21 ∷ 22 ∷ [])
    ≡ (0 ∷ 2 ∷ 2 ∷ []) ∷ (1 ∷ 1 ∷ 1 ∷ []) ∷ []
unfolding everything call_of number_at
seats_numbered = refl

-- and nothing changes then, whatever the facility
pub seats_unchanged : (f : Facility) → map (λ s. after f (call_of (handed 21 s))) (1 ∷ 255 ∷ []) ≡ f ∷ f ∷ []
unfolding everything call_of number_at
seats_unchanged f = refl
