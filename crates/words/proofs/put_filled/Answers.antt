-- What is left of the pattern, stored behind what is stored, makes the whole.
use Rattle.std.specs.Prelude.{◌<◌, get_or, length}
use Rattle.std.proofs.Common.{arith, rules}
use Rattle.words.proofs.Patterns.{fill_goes_on, fill_ends, at_most_one}
use Rattle.words.proofs.put_filled.Goals as goal

pub loop-x-preserved : goal.loop-x-preserved
loop-x-preserved c =
    let n = c.at in
    let l = c.loop-x in
    let a = c.args in
    let x = get_or a.pattern.now l.x-index 0 in
    let h : l.x-index < length a.pattern.now = search rules in (
      omega (arith, c.signs-i.ensures, at_most_one x),
      fill_goes_on a.pattern.now a.numbers.now a.out.now _ _ l.i l.x-index n.result _ h n.ensures c.signs-i.ensures l.invariant.1 c.put_said.ensures,
    )

pub returns : goal.returns
returns c =
    let a = c.args in
    let l = c.loop-x in
    fill_ends a.pattern.now a.numbers.now a.out.now _ l.i l.x-index (search rules) l.invariant.1
