-- Where both rows are there whole, one copy of a row.
use Rattle.std.proofs.Common.{arith}
use Rattle.opens.specs.Laws.Loops.{whole_row_copied}
use Rattle.opens.proofs.copy_process.Goals as goal

pub returns : goal.returns
returns c =
    let e = c.copy_within.ensures in
    whole_row_copied c.args.marks.now c.copy_within.new.self c.args.p c.args.t _ e.len (omega arith) e.by_index.0 e.by_index.1 e.by_index.2
