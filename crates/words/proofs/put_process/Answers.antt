-- A process that runs is told by its numbers, and the bound of its moves behind them.
use borrow.Author.Tests.{eq-eqb, ne_eqb}
use Rattle.text.specs.Laws.Puts.{◌▹◌}
use Rattle.words.proofs.put_process.Goals as goal

pub returns-then-r-eq1 : goal.returns-then-r-eq1
returns-then-r-eq1 c = rw (eq-eqb _ 1 c.if-r-eq1.true) (c.put_filled.ensures ▹ rw c.most_moves.ensures at c.decimal.ensures)

pub returns : goal.returns
returns c = rw (ne_eqb _ 1 c.if-r-eq1.false) c.text.ensures
