-- The bytes of a user are stored, one after the other.
use mathlib.Core.Path.{refl}
use Rattle.in_place.specs.Layout.{field_of, the_clearances, the_roles, the_trusts, the_clearancesets}
use Rattle.in_place.proofs.Stored.{stored}
use Rattle.in_place.proofs.bytes.put_user.Goals as goal

pub returns : goal.returns
returns c =
    let a = c.args in
    let u = a.u in
    let f = stored a.s.now _ (field_of a.s.now) the_clearances a.i u.clearance.level refl c.put.ensures in
    let f = stored _ _ _ the_roles a.i u.role f c.put-2.ensures in
    let f = stored _ _ _ the_trusts a.i u.trusted f c.put-3.ensures in
    stored _ _ _ the_clearancesets a.i u.clearance.set f c.put-4.ensures
