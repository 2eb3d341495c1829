-- One number alone acts so.
use Rattle.requests.specs.Laws.Actions.{send_signal_is}
use Rattle.requests.proofs.is_send_signal.Goals as goal

pub returns : goal.returns
returns c = send_signal_is c.args.request
