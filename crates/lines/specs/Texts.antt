-- The run program's lines, from what the code has at hand.
use Rattle.std.specs.Prelude.{ℕ, List, ◌++◌, [], ◌∷◌, cond}
use Rattle.state.specs.declared.Call.{Call}
use Rattle.rules.specs.Lines.{field, hyphen, decimal, line_feed}
use Rattle.answers.specs.declared.Outcome.{Outcome}
use Rattle.answers.specs.Answers.{code}
use Rattle.answers.specs.Outcomes.{number_of, answers_of}
use Rattle.labels.specs.Decisions.{on}

-- index and four bytes of a call
abbrev pub call_text : ℕ → Call → List ℕ
call_text i c = field i ++ field c.request ++ field c.process ++ field c.target ++ field c.extra

-- and refusal number and combined answer
abbrev pub outcome_text : ℕ → Call → Outcome → List ℕ
outcome_text i c o = call_text i c ++ field (number_of o) ++ field (code (answers_of o).combined)

-- a level, or a hyphen where the process does not run
abbrev pub level_part : ℕ → ℕ → List ℕ
level_part running level = cond (on running) (decimal level) (hyphen ∷ [])

-- the line of a call by its outcome and by the process after it
unfoldable pub line_text : ℕ → Call → Outcome → ℕ → ℕ → List ℕ
line_text i c o running level = outcome_text i c o ++ level_part running level ++ (line_feed ∷ [])
