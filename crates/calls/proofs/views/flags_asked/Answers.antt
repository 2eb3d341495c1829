-- By whether all flags together would forbid the request.
use borrow.Author.Tests.{ne_eqb}
use Rattle.calls.proofs.views.flags_asked.Goals as goal

pub returns-then-forbidding-eq0 : goal.returns-then-forbidding-eq0
returns-then-forbidding-eq0 g c = rw (← c.requires, ← c.object-kind.ensures, ← c.forbidding.ensures, c.if-forbidding-eq0.true)

pub returns : goal.returns
returns g c = rw (← c.requires, ← c.object-kind.ensures, ← c.forbidding.ensures, ne_eqb _ 0 c.if-forbidding-eq0.false) c.seen.ensures
