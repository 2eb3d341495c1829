-- A user more, where there is room.
use Rattle.std.proofs.Common.{lt-ltb, le-ltb}
use Rattle.state.specs.State.{add_user, put_user}
use Rattle.state.proofs.Facility.add_user.Goals as goal

pub returns-then-i-lt-USERS : goal.returns-then-i-lt-USERS
unfolding add_user put_user
returns-then-i-lt-USERS c = rw (lt-ltb _ _ c.if-i-lt-USERS.true)

pub returns-else-i-lt-USERS : goal.returns-else-i-lt-USERS
unfolding add_user
returns-else-i-lt-USERS c = rw (le-ltb _ _ c.if-i-lt-USERS.false)
