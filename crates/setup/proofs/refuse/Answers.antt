-- The outcome names the refusal and its record; the facility is blank.
use Rattle.std.proofs.Common.{Err}
use Rattle.setup.proofs.refuse.Goals as goal

pub returns : goal.returns
returns w c = record { value = λ i. Err (record { number = c.number.ensures i; index = c.args.index }); becomes = rw c.off.ensures at c.blank.ensures }
