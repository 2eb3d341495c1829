-- The result is `call_of c`.
use Rattle.std.proofs.Common.{rules}
use Rattle.hvozdalka.specs.Numbers.{call_of}
use Rattle.hvozdalka.proofs.CallFromSeatedCall.from.Goals as goal

pub returns : goal.returns
unfolding call_of
returns c = search rules
