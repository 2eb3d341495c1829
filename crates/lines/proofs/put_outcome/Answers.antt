-- The text `outcome_text index c outcome` is stored, and `number_of outcome < 256`, and `code (answers_of outcome).combined < 256`.
use Rattle.answers.specs.declared.Answers.{Answers}
use Prim.Native.Nat.{ℕ}
use mathlib.Core.Path.{◌≡◌, ◌∙◌, ap}
use mathlib.Core.List.{◌++◌}
use borrow.Author.Rules.{rules}
use Rattle.lines.specs.Texts.{call_text}
use Rattle.rules.specs.Lines.{field}
use Rattle.answers.specs.Answers.{code}
use Rattle.answers.specs.Outcomes.{number_of, answers_of}
use Rattle.text.specs.Laws.Puts.{◌▹◌, put_as}
use Rattle.lines.proofs.put_outcome.Goals as goal

pub returns : goal.returns
returns c =
    let a = c.args in
    let n = c.number in
    let k = c.code-code in
    let d : k.result ≡ code (answers_of a.outcome).combined = k.ensures ∙ ap (λ (x : Answers). code x.combined) c.answers-answers.ensures in
    record {
      stored = put_as (ap (λ (x : ℕ). call_text a.index a.c ++ field x ++ field k.result) n.ensures
          ∙ ap (λ (x : ℕ). call_text a.index a.c ++ field (number_of a.outcome) ++ field x) d)
          (c.put_call.ensures ▹ c.byte.ensures ▹ c.byte-2.ensures);
      outcome_bound = search (rules, n.ensures);
      outcome_bound_2 = search (rules, d);
    }
