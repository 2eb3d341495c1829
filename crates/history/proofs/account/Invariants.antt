-- The calls that are left, told to the account so far.
use Rattle.std.specs.Prelude.{◌*◌, ◌≡◌, drop}
use Rattle.rules.specs.Histories.{history}
use Rattle.rules.specs.Lines.{calls_of}
use Rattle.matter.specs.AfterCalls.{ledger_of, ledger_after}
use Rattle.history.proofs.account.Given as goal

abbrev pub invariant-loop-k : goal.invariant-loop-k
invariant-loop-k l = ledger_of l.setup (calls_of l.calls) ≡ ledger_after l.l (history l.f (calls_of (drop (4 * l.k) l.calls)))
