-- Four bytes of the counter are stored, low byte first.
use Prim.Native.Nat.{ℕ, ◌+◌, ◌*◌, ◌/◌, ◌%◌, ◌-◌}
use mathlib.Core.Path.{refl, ◌≡◌, ◌∙◌, ap}
use native.Mathlib.Omega.{arith}
use Rattle.in_place.proofs.Changed.{none_is, one_more_is}
use Rattle.in_place.proofs.Fields.{count_lent}
use Rattle.in_place.proofs.bytes.ArrayU8SIZEFacilityStore.count_refusal.Goals as goal

pub returns-then-i-lt-USERS : goal.returns-then-i-lt-USERS
returns-then-i-lt-USERS c =
    let u = c.args.u in
    let n = c.saturating_add-n in
    let p = ap (λ (x : ℕ). x + 4 * u) c.start.ensures in
    let k : (c.start.result + 4 * u + 4) - (c.start.result + 4 * u) ≡ 4 = omega arith in
    let m = n.result in
    count_lent c.args.self.now _ _ _ u m (m % 256) (m / 256 % 256) (m / 65536 % 256) (m / 16777216 % 256) p k c.told-self c.if-i-lt-USERS.true
    (c.copy_from_slice.ensures.after ∙ c.to_le_bytes.ensures) (omega (arith, n.type_inv))
    (n.ensures ∙ one_more_is _ _ c.refusals.ensures c.refusals.type_inv)

pub returns-else-i-lt-USERS : goal.returns-else-i-lt-USERS
returns-else-i-lt-USERS c = (none_is c.args.self.now c.args.u c.if-i-lt-USERS.false, refl)
