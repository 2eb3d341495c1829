-- The result is `fc_rule o u`.
use borrow.Author.Tests.{ne_eqb}
use Rattle.labels.specs.Decisions.{◌or◌}
use Rattle.rules.specs.Modules.{fc_rule}
use Rattle.modules.proofs.fc_rule.Goals as goal

pub returns-then-o-eq-UNSET : goal.returns-then-o-eq-UNSET
unfolding fc_rule
returns-then-o-eq-UNSET c = rw c.if-o-eq-UNSET.true

pub returns : goal.returns
unfolding fc_rule ◌or◌
returns c = rw (c.grant.ensures, ne_eqb _ 255 c.if-o-eq-UNSET.false)
