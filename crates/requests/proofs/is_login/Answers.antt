-- One number alone acts so.
use Rattle.requests.specs.Laws.Actions.{login_is}
use Rattle.requests.proofs.is_login.Goals as goal

pub returns : goal.returns
returns c = login_is c.args.request
