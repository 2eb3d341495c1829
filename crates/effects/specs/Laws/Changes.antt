-- The facility after a call is the one after what the call changes.
use Rattle.std.specs.Prelude.{ℕ, ◌≡◌, eqb}
use Rattle.std.proofs.Common.{◌∙◌, ap}
use Rattle.labels.proofs.Laws.Decisions.{by_test}
use Rattle.answers.specs.declared.Answers.{Answers}
use Rattle.answers.specs.Outcomes.{denies, number_of, outcome_of}
use Rattle.answers.specs.declared.Outcome.{Outcome}
use Rattle.state.specs.declared.Call.{Call}
use Rattle.state.specs.declared.Facility.{Facility}
use Rattle.state.specs.State.{changed}
use Rattle.rules.specs.Modules.{view_of}
use Rattle.rules.specs.Questions.{number}
use Rattle.rules.specs.Effects.{effect_from}
use Rattle.rules.specs.Calls.{after, accepted, after_refusal, query}
use Rattle.rules.proofs.Refusals.{query_number}
use Rattle.rules.specs.declared.View.{View}
use Rattle.effects.specs.Changes.{change_by, change_in}

pub after_is : (f : Facility) (c : Call) → changed f (change_by (number f c) (view_of f c) c) ≡ after f c
unfolding change_by outcome_of after accepted after_refusal effect_from
after_is f c =
    by_test (eqb (number f c) 0) (λ h. rw h) (λ h. rw h (by_test (denies (number f c)) (λ k. rw k) (λ k. rw k)))

-- the facility after a call, by what it looks at and the number of its outcome
pub enforced_facility : (f : Facility) (c : Call) (v : View) (n : ℕ) (o : Outcome) → n ≡ number_of o → o ≡ query f c → v ≡ view_of f c
    → changed f (change_by n v c) ≡ after f c
enforced_facility f c v n o e q w =
    ap (λ (m : ℕ). changed f (change_by m v c)) (e ∙ ap number_of q ∙ query_number f c)
    ∙ ap (λ (x : View). changed f (change_by (number f c) x c)) w ∙ after_is f c

-- what a call comes to tells what it changes
made_of : (n o : ℕ) (a : Answers) (v : View) (c : Call) → change_in (outcome_of n a o) v c ≡ change_by n v c
unfolding outcome_of change_by
made_of n o a v c =
    by_test (eqb n 0) (λ h. rw h) (λ h. rw h (by_test (denies n) (λ k. rw k) (λ k. rw k)))

-- the facility after a call, by what it looks at and what it comes to
pub enforced_change : (f : Facility) (c : Call) (v : View) (o : Outcome) → o ≡ query f c → v ≡ view_of f c → changed f (change_in o v c) ≡ after f c
unfolding query
enforced_change f c v o q w =
    ap (λ (x : Outcome). changed f (change_in x v c)) q
    ∙ ap (changed f) (made_of (number f c) _ _ v c)
    ∙ ap (λ (x : View). changed f (change_by (number f c) x c)) w ∙ after_is f c
