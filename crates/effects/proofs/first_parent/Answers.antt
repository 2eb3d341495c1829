-- The result is `first_parent kind t`.
use Rattle.labels.specs.Decisions.{◌and◌}
use Rattle.rules.specs.Effects.{first_parent}
use Rattle.effects.proofs.first_parent.Goals as goal

pub returns-then-inside-t : goal.returns-then-inside-t
unfolding first_parent ◌and◌
returns-then-inside-t c = rw (← c.in_directory-inside.ensures, c.if-inside-t.true)

pub returns : goal.returns
unfolding first_parent ◌and◌
returns c = rw (← c.in_directory-inside.ensures, c.if-inside-t.false)
