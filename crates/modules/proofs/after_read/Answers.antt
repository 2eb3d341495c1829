-- The result is `move_by Class.Reads l r`.
use Rattle.rules.specs.Modules.{move_by}
use Rattle.modules.proofs.after_read.Goals as goal

pub returns : goal.returns
unfolding move_by
returns c = rw (c.moved_to.ensures, c.join-2.ensures, c.join.ensures)
