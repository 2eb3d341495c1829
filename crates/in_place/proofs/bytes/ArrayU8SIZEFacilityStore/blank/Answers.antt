-- All but the paddings is cleared, and the switches are stored.
use mathlib.Core.Path.{refl, ◌∙◌}
use native.Mathlib.Omega.{arith}
use borrow.Rule.Slice.PartMut.{same_len_mid}
use Rattle.in_place.specs.Layout.{offset, the_mac, the_fc, the_sim, the_ff, the_refusals, the_padding, the_last_padding}
use Rattle.in_place.proofs.Cleared.{blank_is, fields_filled}
use Rattle.in_place.proofs.Stored.{stored}
use Rattle.in_place.proofs.bytes.ArrayU8SIZEFacilityStore.blank.Goals as goal

pub returns : goal.returns
returns c =
    let s = c.args.self.now in
    let w = c.args.switches in
    let n = same_len_mid 0 (offset the_padding) s c.fill.new.self c.fill.ensures.len ∙ c.told-self in
    let e = c.start.ensures in
    let f = fields_filled s _ _ the_mac the_padding 0 _ refl refl refl (omega arith) (omega (arith, c.told-self)) (c.fill.ensures.after (λ y z. z)) in
    let f =
    fields_filled _ _ _ the_refusals the_last_padding _ _ f e (omega (arith, e)) (omega arith) (omega (arith, n))
    (c.fill-2.ensures.after (λ y z. z)) in
    let f = stored _ _ _ the_mac 0 w.mac f c.put.ensures in
    let f = stored _ _ _ the_fc 0 w.fc f c.put-2.ensures in
    let f = stored _ _ _ the_sim 0 w.sim f c.put-3.ensures in
    let f = stored _ _ _ the_ff 0 w.ff f c.put-4.ensures in
    blank_is s _ w f
