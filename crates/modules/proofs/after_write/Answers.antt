-- The result is `move_by Class.Writes l r`.
use Rattle.rules.specs.Modules.{move_by}
use Rattle.modules.proofs.after_write.Goals as goal

pub returns : goal.returns
unfolding move_by
returns c = rw (c.moved_to.ensures, c.meet.ensures)
