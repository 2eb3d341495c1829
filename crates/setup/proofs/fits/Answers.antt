-- By whether there is a record before.
use borrow.Author.Tests.{ne_eqb}
use Rattle.labels.specs.Decisions.{◌and◌}
use Rattle.setup.proofs.fits.Goals as goal

pub returns : goal.returns
unfolding ◌and◌
returns c = rw (c.kind_of-last.ensures, ne_eqb _ 0 c.if-before-eq0.false)
