-- The conditions, one behind the other.
use Rattle.names.specs.Reasons.{role_reasons}
use Rattle.text.specs.Laws.Puts.{◌▹◌}
use Rattle.names.proofs.put_role_reasons.Goals as goal

pub returns : goal.returns
unfolding role_reasons
returns c = c.put_if.ensures ▹ c.put_if-2.ensures ▹ c.put_if-3.ensures
