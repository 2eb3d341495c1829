-- The two tests are questions 1 and 2; after them the questions are asked in order.
use Rattle.std.proofs.Common.{◌∙◌, ap, arith, leb-true, leb-false, ltb-false}
use Rattle.answers.specs.declared.Refusal.TheVariants.{NoSuchRequest, NoSuchProcess}
use Rattle.answers.specs.Outcomes.{asked_or}
use Rattle.answers.proofs.Laws.Questions.{answered, refuses}
use Rattle.questions.specs.Laws.Parts.{first_is_1, first_is_2, stops_first}
use Rattle.rules.specs.Modules.{view_of}
use Rattle.rules.specs.Requests.{action_of}
use Rattle.calls.proofs.ask_first.Goals as goal

pub returns-in_err-ask : goal.returns-in_err-ask
returns-in_err-ask g c later =
    let a = c.args in
    let v = view_of (g.S.FacilityStore.facility a.s.now) a.c in
    let (z, s) = refuses NoSuchRequest c.ask.ensures c.in_err-ask.was _ c.from_residual.ensures.1 in
    ap (λ x. asked_or x later) s
    ∙ stops_first v a.c 1 later (omega arith) (first_is_1 (action_of a.c.request) v a.c (leb-false _ _ z))

pub returns-in_err-ask-2 : goal.returns-in_err-ask-2
returns-in_err-ask-2 g c later =
    let a = c.args in
    let v = view_of (g.S.FacilityStore.facility a.s.now) a.c in
    let y = leb-true _ _ (answered NoSuchRequest c.ask.ensures c.in_ok-ask.was) in
    let (z, s) = refuses NoSuchProcess c.ask-2.ensures c.in_err-ask-2.was _ c.from_residual-in_err-ask-2.ensures.1 in
    ap (λ x. asked_or x later) s
    ∙ stops_first v a.c 2 later (omega arith) (first_is_2 (action_of a.c.request) v a.c y (ltb-false _ _ z))
