-- The calls that are left, told to the account so far.
use Rattle.std.specs.Prelude.{◌*◌}
use Rattle.std.proofs.Common.{sym, ◌∙◌, rules}
use Rattle.history.specs.Laws.CallBytes.{account_done, next_account, no_more_calls}
use Rattle.history.proofs.account.Goals as goal

pub loop-k-preserved : goal.loop-k-preserved
loop-k-preserved c =
    let l = c.loop-k in
    l.invariant
    ∙ next_account l.f c.enforce-outcome.new.s l.l _ c.args.calls.now l.k _ _ _ (search rules) c.call_at-c.ensures
    c.enforce-outcome.ensures.value c.enforce-outcome.ensures.becomes c.number.ensures c.step-l.ensures

pub returns : goal.returns
returns c =
    let l = c.loop-k in
    let s = c.args.calls.now in
    sym (l.invariant ∙ account_done l.f l.l s (4 * l.k) (no_more_calls s l.k (search rules)))
