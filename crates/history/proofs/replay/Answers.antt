-- The calls that are left, run on the facility so far.
use Rattle.std.specs.Prelude.{◌+◌, ◌*◌, drop}
use Rattle.std.proofs.Common.{sym, ◌∙◌, ap, rules}
use Rattle.state.specs.declared.Call.{Call}
use Rattle.state.specs.declared.Facility.{Facility}
use Rattle.rules.specs.Calls.{after}
use Rattle.rules.specs.Histories.{run}
use Rattle.rules.specs.Lines.{calls_of}
use Rattle.history.specs.Laws.CallBytes.{next_run, no_more_calls, run_done}
use Rattle.history.proofs.replay.Goals as goal

pub loop-k-preserved : goal.loop-k-preserved
loop-k-preserved c =
    let l = c.loop-k in
    let s = c.args.calls.now in
    l.invariant ∙ next_run l.f s l.k (search rules)
    ∙ ap (λ (g : Facility). run g (calls_of (drop (4 * (l.k + 1)) s)))
    (sym (c.enforce.ensures.becomes ∙ ap (λ (x : Call). after l.f x) c.call_at.ensures))

pub returns : goal.returns
returns c =
    let l = c.loop-k in
    let s = c.args.calls.now in
    sym (l.invariant ∙ run_done l.f s (4 * l.k) (no_more_calls s l.k (search rules)))
