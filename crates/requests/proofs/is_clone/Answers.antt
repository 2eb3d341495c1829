-- One number alone acts so.
use Rattle.requests.specs.Laws.Actions.{clone_is}
use Rattle.requests.proofs.is_clone.Goals as goal

pub returns : goal.returns
returns c = clone_is c.args.request
