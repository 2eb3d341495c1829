-- The result is `first_flags kind`.
use Rattle.rules.specs.Effects.{first_flags}
use Rattle.effects.proofs.first_flags.Goals as goal

pub returns-then-inherits : goal.returns-then-inherits
unfolding first_flags
returns-then-inherits c = rw (← c.in_directory-inherits.ensures, c.if-inherits.true)

pub returns : goal.returns
unfolding first_flags
returns c = rw (← c.in_directory-inherits.ensures, c.if-inherits.false)
