-- The marks are the byte of the opens at their place.
use Prim.Native.Nat.{ℕ}
use mathlib.Core.Path.{◌∙◌, ap}
use Rattle.in_place.specs.Layout.{facility_at}
use Rattle.state.specs.State.{opens_of}
use Rattle.labels.specs.Decisions.{at}
use Rattle.in_place.proofs.bytes.ArrayU8SIZEFacilityStore.opens.Goals as goal

pub returns : goal.returns
unfolding facility_at opens_of
returns c =
    let f = facility_at c.args.self.now in
    c.byte.ensures ∙ ap (λ (n : ℕ). at f.opens n) c.mark_place.ensures
