-- The counter of the user gets one more, where there is such a user and the counter is not at its stop.
use Rattle.std.specs.Prelude.{◌≡◌, length}
use Rattle.std.proofs.Common.{rules, lt-ltb, sym}
use Rattle.state.specs.State.{counted, put_refusals, most_users}
use Rattle.state.specs.Laws.ReadBack.{counted_none, counted_stays}
use Rattle.state.proofs.Facility.count_refusal.Goals as goal
use Rattle.state.proofs.Facility.count_refusal.Goals.{else-i-lt-USERS-via-then-i-lt-USERS+else-self-i-lt-MOST_REFUSALS}
use Rattle.state.proofs.Facility.count_refusal.Goals.{else-i-lt-USERS-via-else-i-lt-USERS}

pub returns-then-self-i-lt-MOST_REFUSALS : goal.returns-then-self-i-lt-MOST_REFUSALS
unfolding counted put_refusals
returns-then-self-i-lt-MOST_REFUSALS c = rw (lt-ltb _ _ c.if-self-i-lt-MOST_REFUSALS.true)

pub returns-else-i-lt-USERS : goal.returns-else-i-lt-USERS
returns-else-i-lt-USERS c =
    let f = c.args.self.now in
    let n : length f.refusals ≡ most_users = search rules in
    elim c.else-i-lt-USERS.branch [
      | else-i-lt-USERS-via-then-i-lt-USERS+else-self-i-lt-MOST_REFUSALS w ↦ sym (counted_stays f _ w.if-self-i-lt-MOST_REFUSALS.false)
      | else-i-lt-USERS-via-else-i-lt-USERS w ↦ sym (counted_none f _ n w.if-i-lt-USERS.false)
    ]
