-- Either it does not fit and nothing is stored, or its eight bytes are.
use native.Mathlib.Numerals.{towards_suc}
use Rattle.writer.proofs.WritingLoop.{one_fits, one_left}
use Rattle.writer.proofs.put_record.Goals as goal

pub returns-then-out-next : goal.returns-then-out-next
returns-then-out-next c = let a = c.args in one_left a.out.now a.place a.r c.if-out-next.true

pub returns : goal.returns
returns c =
    let a = c.args in
    let s = one_fits a.out.now a.place a.r c.if-out-next.false in
    record { buffer = simp towards_suc s.buffer; place = s.place }
