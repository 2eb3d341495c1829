-- Refused by an early question, or what the later ones and the modules say of what the call asks for.
use Rattle.std.proofs.Common.{◌∙◌}
use Rattle.answers.proofs.Laws.Questions.{no_refusal_is_0}
use Rattle.questions.specs.Laws.Calls.{query_first}
use Rattle.calls.proofs.Seen.{asked_query}
use Rattle.calls.proofs.query.Goals as goal

pub returns-in-Err : goal.returns-in-Err
returns-in-Err g c =
    let a = c.args in
    let n = c.number.ensures in
    query_first (g.S.FacilityStore.facility a.s.now) a.c _ (n ∙ c.in-Err.ensures 0) (no_refusal_is_0 _ n)

pub returns : goal.returns
returns g c =
    let a = c.args in
    asked_query (g.S.FacilityStore.facility a.s.now) a.c _ _ _ (c.in_default.ensures 0) c.request-q.ensures c.view_asked.ensures c.outcome_later.ensures
