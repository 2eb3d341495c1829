-- The modules' answers, and what questions 10 to 13 come to with them.
use Rattle.std.proofs.Common.{◌∙◌, ap}
use Rattle.labels.specs.Decisions.{◌and◌}
use Rattle.answers.proofs.Laws.Questions.{no_refusal_is_0}
use Rattle.answers.specs.declared.Answers.{Answers}
use Rattle.questions.specs.Parts.{late_number}
use Rattle.questions.specs.Laws.Parts.{accepted_late, refused_late, object_left_out}
use Rattle.questions.proofs.judged.Goals as goal

pub returns-in-Ok : goal.returns-in-Ok
unfolding ◌and◌
returns-in-Ok c =
    let a = c.args in
    let e = c.answers-answers.ensures in
    accepted_late a.q a.v a.c _ _ _ (c.in-Ok.ensures ∙ ap (λ (x : Answers). late_number a.q.action a.v a.c x.combined) e) e c.object_given.ensures

pub returns-in-Err : goal.returns-in-Err
returns-in-Err c =
    let a = c.args in
    let e = c.answers-answers.ensures in
    let n = c.number-number.ensures in
    let d = no_refusal_is_0 _ n in
    c.of.ensures
    ∙ object_left_out _ _ _ d
    ∙ refused_late a.q a.v a.c _ _ _ d
    (n ∙ c.in-Err.ensures ∙ ap (λ (x : Answers). late_number a.q.action a.v a.c x.combined) e) e
