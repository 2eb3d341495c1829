-- One store, at the place of the marks.
use Prim.Native.Nat.{ℕ}
use mathlib.Core.Path.{◌∙◌, ap}
use lib.ListN.{set}
use Rattle.in_place.proofs.Changed.{opens_step, opens_first}
use Rattle.in_place.specs.Layout.{facility_at}
use Rattle.in_place.proofs.Stored.{padding_marks}
use Rattle.state.specs.State.{put_opens}
use Rattle.in_place.proofs.bytes.ArrayU8SIZEFacilityStore.put_marks.Goals as goal

pub returns : goal.returns
returns c =
    let a = c.args in
    let m = c.put.ensures in (
      opens_step a.self.now _ (facility_at a.self.now) (facility_at a.self.now).opens _ a.v (opens_first a.self.now) m
          ∙ ap (λ (n : ℕ). put_opens (facility_at a.self.now) (set (facility_at a.self.now).opens n a.v)) c.mark_place.ensures,
      padding_marks a.self.now _ _ _ m,
    )
