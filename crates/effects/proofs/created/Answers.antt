-- Each field is the one of `created`.
use Rattle.effects.proofs.created.Goals as goal

pub returns : goal.returns
returns c = rw (← c.first_flags-flags.ensures, ← c.first_parent-parent.ensures)
