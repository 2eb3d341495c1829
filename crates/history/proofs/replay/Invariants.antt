-- The calls that are left, run on the facility so far.
use Rattle.std.specs.Prelude.{◌*◌, ◌≡◌, drop}
use Rattle.rules.specs.Histories.{run}
use Rattle.rules.specs.Lines.{calls_of}
use Rattle.history.specs.Replayed.{replayed}
use Rattle.history.proofs.replay.Given as goal

abbrev pub invariant-loop-k : goal.invariant-loop-k
invariant-loop-k l = replayed l.setup l.calls ≡ run l.f (calls_of (drop (4 * l.k) l.calls))
