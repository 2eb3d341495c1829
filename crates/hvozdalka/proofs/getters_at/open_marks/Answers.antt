-- The two marks of the byte.
use Rattle.std.proofs.Common.{rules}
use Rattle.hvozdalka.specs.Numbers.{open_marks}
use Rattle.hvozdalka.proofs.getters_at.open_marks.Goals as goal

pub returns : goal.returns
unfolding open_marks
returns g c = search rules
