-- What query gives, by what a call looks at.
use Rattle.std.specs.Prelude.{ℕ, ◌≡◌, ◌≢◌, eqb}
use Rattle.std.proofs.Common.{◌∙◌, ap, sym, ne_eqb}
use Rattle.state.specs.declared.Call.{Call}
use Rattle.state.specs.declared.Facility.{Facility}
use Rattle.rules.specs.Calls.{accepted, object_given, query, after, after_refusal, enforce}
use Rattle.rules.specs.Modules.{view_of}
use Rattle.modules.specs.Laws.Parts.{answers_by_law}
use Rattle.modules.specs.Parts.{request_in}
use Rattle.requests.specs.declared.Request.{Request}
use Rattle.questions.specs.Parts.{outcome_by, outcome_in, process_number, later_number}
use Rattle.answers.specs.declared.Outcome.TheVariants.{Refused}
use Rattle.rules.specs.Requests.{action_of}
use Rattle.questions.specs.Laws.Parts.{refused_first, outcome_later, all_parts, process_refuses}
use Rattle.answers.specs.declared.Outcome.{Outcome}
use Rattle.rules.specs.declared.View.{View}
use Rattle.rules.specs.Questions.{runs_of, number}
use Rattle.answers.specs.declared.Answers.{Answers}
use Rattle.answers.specs.Outcomes.{number_of, outcome_of}
use Rattle.rules.proofs.Refusals.{query_number}
use Rattle.rules.specs.declared.Enforced.{Enforced}

pub query_is : (f : Facility) (c : Call) → outcome_in (view_of f c) c ≡ query f c
unfolding outcome_in outcome_by query object_given accepted
query_is f c = ap (λ (a : Answers). outcome_of (number f c) a (object_given f c)) (answers_by_law (view_of f c) c)

-- what query gives, by where the questions stop; k is what the request acts on
pub query_first : (f : Facility) (c : Call) (n : ℕ) → n ≡ process_number (action_of c.request) (runs_of (view_of f c)) c 0 → n ≢ 0 → Refused n ≡ query f c
query_first f c n q h = refused_first (view_of f c) c n q h ∙ query_is f c

pub query_later : (f : Facility) (c : Call) (q : Request) (n : ℕ) (o : Outcome) → q ≡ request_in (view_of f c) c
    → n ≡ process_number (action_of c.request) (runs_of (view_of f c)) c 0 → n ≡ 0
    → o ≡ outcome_by (later_number q (view_of f c) c) q (view_of f c) c → o ≡ query f c
query_later f c q n o e p z h = outcome_later (view_of f c) c q n o e p z h ∙ query_is f c

-- a call that one of the questions 1 to 5 refuses changes nothing
pub refused_stays : (f : Facility) (c : Call) (n : ℕ) → n ≡ process_number (action_of c.request) (runs_of (view_of f c)) c 0 → n ≢ 0 → f ≡ after f c
unfolding after accepted after_refusal
refused_stays f c n e h =
    let k = action_of c.request in
    let v = view_of f c in
    let g : process_number k (runs_of v) c 0 ≢ 0 = λ z. h (e ∙ z) in
    let (d, q) = process_refuses k v c (later_number (request_in v c) v c) g in
    let m : number f c ≡ process_number k (runs_of v) c 0 = sym (all_parts v c) ∙ q in
    rw (m, ne_eqb _ 0 g, d)

-- the outcome, by what a call looks at
pub enforced_outcome : (f : Facility) (c : Call) (v : View) (o : Outcome) → o ≡ outcome_in v c → v ≡ view_of f c → o ≡ query f c
enforced_outcome f c v o e w = e ∙ ap (λ (x : View). outcome_in x c) w ∙ query_is f c

-- an enforced call was accepted when its number is 0
pub enforced_accepted : (f : Facility) (c : Call) (e : Enforced) (n : ℕ) → e ≡ enforce f c → n ≡ number_of e.outcome → eqb n 0 ≡ accepted f c
unfolding accepted
enforced_accepted f c e n q h =
    ap (λ (m : ℕ). eqb m 0) (h ∙ ap (λ (x : Enforced). number_of x.outcome) q ∙ query_number f c)
