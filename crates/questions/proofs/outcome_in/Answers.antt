-- Where a question up to the fifth refuses, its number is the call's; else the later questions give it.
use Rattle.std.specs.Prelude.{ℕ, ◌≡◌}
use Rattle.std.proofs.Common.{refl, ◌∙◌, ap}
use Rattle.answers.proofs.Laws.Questions.{no_refusal_is_0}
use Rattle.state.specs.declared.Call.{Call}
use Rattle.rules.specs.declared.Action.{Action}
use Rattle.rules.specs.declared.Runs.{Runs}
use Rattle.rules.specs.declared.View.{View}
use Rattle.rules.specs.Requests.{action_of}
use Rattle.rules.specs.Questions.{runs_of}
use Rattle.questions.specs.Parts.{process_number}
use Rattle.questions.specs.Laws.Parts.{refused_first, outcome_later}
use Rattle.questions.proofs.outcome_in.Goals as goal

-- the number is asked of what the view tells of who runs
asked_of : (k : Action) (v : View) (c : Call) (r : Runs) (n : ℕ) → r ≡ runs_of v → n ≡ process_number k r c 0 → n ≡ process_number k (runs_of v) c 0
asked_of k v c r n e h = h ∙ ap (λ (x : Runs). process_number k x c 0) e

pub returns-in-Err : goal.returns-in-Err
returns-in-Err c =
    let a = c.args in
    let n = c.number.ensures in
    refused_first a.v a.c _ (asked_of (action_of a.c.request) a.v a.c _ _ c.runs_of.ensures (n ∙ c.in-Err.ensures 0)) (no_refusal_is_0 _ n)

pub returns : goal.returns
returns c =
    let a = c.args in
    let n = asked_of (action_of a.c.request) a.v a.c _ _ c.runs_of.ensures (c.in_default.ensures 0) in
    outcome_later a.v a.c _ _ _ c.request_of-q.ensures n refl c.outcome_later.ensures
