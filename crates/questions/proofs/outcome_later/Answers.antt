-- Where a question on the object refuses, its number is the call's; else the modules are asked.
use Rattle.std.proofs.Common.{◌∙◌}
use Rattle.answers.proofs.Laws.Questions.{no_refusal_is_0}
use Rattle.questions.specs.Laws.Parts.{refused_second}
use Rattle.questions.proofs.outcome_later.Goals as goal

pub returns-in-Err : goal.returns-in-Err
returns-in-Err c =
    let n = c.number.ensures in
    refused_second _ _ _ _ (n ∙ c.in-Err.ensures 0) (no_refusal_is_0 _ n)
