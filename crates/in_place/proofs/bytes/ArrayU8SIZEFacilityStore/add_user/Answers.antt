-- The bytes become those of `add_user f u`.
use mathlib.Core.Path.{refl}
use borrow.Author.Rules.{rules}
use Rattle.in_place.specs.Layout.{facility_at}
use Rattle.in_place.proofs.Changed.{user_added, users_full}
use Rattle.in_place.proofs.bytes.ArrayU8SIZEFacilityStore.add_user.Goals as goal

pub returns-then-n-lt-USERS : goal.returns-then-n-lt-USERS
unfolding facility_at
returns-then-n-lt-USERS c =
    let a = c.args in
    user_added a.self.now _ _ a.u _ c.told-self c.users-n.ensures c.if-n-lt-USERS.true c.put_user.ensures c.put.ensures

pub returns-else-n-lt-USERS : goal.returns-else-n-lt-USERS
unfolding facility_at
returns-else-n-lt-USERS c =
    let a = c.args in
    (users_full a.self.now a.u _ c.users-n.ensures (search (rules, c.if-n-lt-USERS.false)), refl)
