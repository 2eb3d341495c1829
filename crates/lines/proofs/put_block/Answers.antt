-- The lines, and `short` behind them.
use lib.ListN.{length-append}
use native.Mathlib.Omega.{arith}
use borrow.Author.Rules.{rules}
use Rattle.lines.specs.Blocks.{lines_of}
use Rattle.lines.proofs.Blocks.{short_most}
use Rattle.rules.specs.Lines.{short_line}
use Rattle.text.specs.Laws.Puts.{◌▹◌, put_counts, put_from}
use Rattle.lines.proofs.put_block.Goals as goal

pub returns-clause-stored : goal.returns-clause-stored
returns-clause-stored g c =
    let p = put_from c.new-lines.ensures (c.put_lines.ensures.stored ▹ c.put_short.ensures) in
    search (rules, p.stored, p.same)

pub returns-clause-calls_len_bound : goal.returns-clause-calls_len_bound
returns-clause-calls_len_bound g c =
    let a = c.args in
    let n = length-append (lines_of a.first (g.S.FacilityStore.facility a.s.now) a.calls.now) (short_line a.calls.now) in
    let m = short_most a.calls.now in
    let b = c.put_lines.ensures.calls_len_bound in
    omega arith

pub returns-clause-prefix_len : goal.returns-clause-prefix_len
returns-clause-prefix_len g c =
    let p = put_from c.new-lines.ensures (c.put_lines.ensures.stored ▹ c.put_short.ensures) in
    let k = put_counts p in
    search (rules, k, p.same)
