-- The conditions, one behind the other.
use Rattle.names.specs.Reasons.{mac_reasons}
use Rattle.text.specs.Laws.Puts.{◌▹◌}
use Rattle.names.proofs.put_mac_reasons.Goals as goal

pub returns : goal.returns
unfolding mac_reasons
returns c =
    c.put_if.ensures ▹ c.put_if-2.ensures ▹ c.put_if-3.ensures ▹ c.put_if-4.ensures ▹ c.put_if-5.ensures ▹ c.put_if-6.ensures
