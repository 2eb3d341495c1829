-- What failed of a call on a facility, from its view and its outcome.
use Rattle.std.specs.Prelude.{ℕ, ◌≡◌}
use Rattle.std.proofs.Common.{◌∙◌, ap}
use Rattle.answers.specs.declared.Outcome.{Outcome}
use Rattle.answers.specs.Outcomes.{number_of}
use Rattle.state.specs.declared.Call.{Call}
use Rattle.state.specs.declared.Facility.{Facility}
use Rattle.rules.specs.declared.View.{View}
use Rattle.rules.specs.Calls.{query}
use Rattle.rules.specs.Modules.{view_of}
use Rattle.rules.specs.Questions.{number}
use Rattle.rules.proofs.Refusals.{query_number}
use Rattle.reasons.specs.Reasons.{Failed, failed_by, failed_of}

pub failed_found : (f : Facility) (c : Call) (v : View) (o : Outcome) (n : ℕ) (w : Failed) → v ≡ view_of f c → o ≡ query f c → n ≡ number_of o
    → w ≡ failed_by n v c → w ≡ failed_of f c
unfolding failed_of
failed_found f c v o n w hv ho hn hw =
    let e = hn ∙ ap number_of ho ∙ query_number f c in
    hw ∙ ap (λ (x : ℕ). failed_by x v c) e ∙ ap (λ (x : View). failed_by (number f c) x c) hv
