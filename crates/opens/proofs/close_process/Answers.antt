-- The part of row p that the list has is filled with zeros.
use Rattle.std.proofs.Common.{rules}
use Rattle.opens.specs.Laws.Loops.{row_zeroed}
use Rattle.opens.proofs.close_process.Goals as goal

pub returns : goal.returns
returns c =
    let e = row_zeroed c.args.marks.now c.args.p c.min-from.result c.min-to.result (search rules) (search rules) in
    search (rules, e)
