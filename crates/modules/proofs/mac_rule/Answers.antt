-- MAC on the object where the request needs one, else without.
use Rattle.modules.specs.Parts.{mac_rule_by}
use Rattle.modules.proofs.mac_rule.Goals as goal

pub returns-then-q : goal.returns-then-q
unfolding mac_rule_by
returns-then-q c = rw (c.if-q.true, c.mac_object.ensures)

pub returns : goal.returns
unfolding mac_rule_by
returns c = rw (c.if-q.false, c.mac_alone.ensures)
