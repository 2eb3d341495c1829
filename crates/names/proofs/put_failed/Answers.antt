-- Those of MAC, of FC and SIM, and of FF.
use Rattle.names.specs.Reasons.{failed_text}
use Rattle.text.specs.Laws.Puts.{◌▹◌}
use Rattle.names.proofs.put_failed.Goals as goal

pub returns : goal.returns
unfolding failed_text
returns c = c.put_mac_reasons.ensures ▹ c.put_role_reasons.ensures ▹ c.put_flag_reason.ensures
