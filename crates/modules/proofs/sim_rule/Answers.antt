-- The result is `sim_rule request k o u`.
use Rattle.labels.specs.Decisions.{◌and◌, ◌or◌}
use Rattle.rules.specs.Modules.{sim_rule}
use Rattle.modules.proofs.sim_rule.Goals as goal

pub returns-then-changes-o : goal.returns-then-changes-o
unfolding sim_rule ◌and◌ ◌or◌
returns-then-changes-o c = rw (c.grant.ensures, ← c.alters.ensures, c.if-changes-o.true)

pub returns : goal.returns
unfolding sim_rule ◌and◌ ◌or◌
returns c = rw (← c.alters.ensures, c.if-changes-o.false)
