-- Three texts, one behind the other.
use borrow.Author.Rules.{rules}
use Rattle.lines.specs.Texts.{line_text}
use Rattle.lines.proofs.Texts.{line_short}
use Rattle.text.specs.Laws.Puts.{◌▹◌}
use Rattle.lines.proofs.put_line.Goals as goal

pub returns : goal.returns
unfolding line_text
returns c =
    let a = c.args in
    let g = c.well_formed.1.1.1.0 in
    let w = c.ranges in
    let o = c.put_outcome.ensures in
    record {
      stored = o.stored ▹ c.put_level.ensures ▹ c.text.ensures;
      level_len_bound = line_short a.index a.c a.outcome a.caller.running a.caller.current.level (search (rules, w))
          (search (rules, g)) (search (rules, g)) (search (rules, g)) (search (rules, g.1.1))
          o.outcome_bound o.outcome_bound_2 (search (rules, w));
    }
