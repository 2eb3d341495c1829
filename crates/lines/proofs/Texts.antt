-- The parts of a line are the line of document 01, and how long it is at most.
use Prim.Native.Nat.{ℕ, ◌≤◌, ◌<◌}
use mathlib.Core.Path.{◌≡◌, refl}
use mathlib.Core.List.{◌++◌, [], ◌∷◌}
use lib.ListN.{length, length-append}
use native.Mathlib.Omega.{arith}
use Rattle.state.specs.declared.Call.{Call}
use Rattle.state.specs.declared.Facility.{Facility}
use Rattle.rules.specs.Calls.{query, after}
use Rattle.rules.specs.Lines.{level_text, call_line, field, line_feed}
use Rattle.state.specs.State.{process_in}
use Rattle.labels.specs.Decisions.{at, on}
use Rattle.lines.specs.Texts.{line_text, call_text, outcome_text, level_part}
use Rattle.text.specs.Laws.Decimals.{byte_short, index_short, level_short}
use Rattle.answers.specs.declared.Outcome.{Outcome}
use Rattle.answers.specs.Answers.{code}
use Rattle.answers.specs.Outcomes.{number_of, answers_of}
use Rattle.labels.proofs.Laws.Decisions.{by_test}

-- it is the paper's
pub line_is : (i : ℕ) (f : Facility) (c : Call)
    → line_text i c (query f c) (at (after f c).runnings c.process) (at (after f c).currents c.process) ≡ call_line i f c
unfolding call_line level_text process_in line_text
line_is i f c = refl

-- and at most 49 bytes long
call_short : (i : ℕ) (c : Call) → i < 18446744073709551616 → c.request < 256 → c.process < 256 → c.target < 256 → c.extra < 256 → length (call_text i c) ≤ 37
call_short i c hi hr hp ht he =
    let a0 = index_short i hi in
    let a1 = byte_short c.request hr in
    let a2 = byte_short c.process hp in
    let a3 = byte_short c.target ht in
    let a4 = byte_short c.extra he in
    let b1 = length-append (field i) (field c.request) in
    let b2 = length-append (field i ++ field c.request) (field c.process) in
    let b3 = length-append (field i ++ field c.request ++ field c.process) (field c.target) in
    let b4 = length-append (field i ++ field c.request ++ field c.process ++ field c.target) (field c.extra) in
    omega arith

pub line_short : (i : ℕ) (c : Call) (o : Outcome) (running level : ℕ) → i < 18446744073709551616
    → c.request < 256 → c.process < 256 → c.target < 256 → c.extra < 256
    → number_of o < 256 → code (answers_of o).combined < 256 → level < 256 → length (line_text i c o running level) ≤ 49
unfolding line_text
line_short i c o running level hi hr hp ht he hn ha hl =
    let a0 = call_short i c hi hr hp ht he in
    let a5 = byte_short (number_of o) hn in
    let a6 = byte_short (code (answers_of o).combined) ha in
    let a7 : length (level_part running level) ≤ 3 = by_test (on running) (λ t. rw (t, length) (level_short level hl)) (λ t. rw (t, length) (omega arith)) in
    let b1 = length-append (call_text i c) (field (number_of o)) in
    let b2 = length-append (call_text i c ++ field (number_of o)) (field (code (answers_of o).combined)) in
    let b3 = length-append (outcome_text i c o) (level_part running level) in
    let b4 = length-append (outcome_text i c o ++ level_part running level) (line_feed ∷ []) in
    omega arith
