-- The result is `move_by Class.Both l r`.
use Rattle.rules.specs.Modules.{move_by}
use Rattle.modules.proofs.after_both.Goals as goal

pub returns : goal.returns
unfolding move_by
returns c = c.moved_to.ensures
