-- What is made of the bytes one after the other.
use Rattle.std.specs.Prelude.{ℕ, List}
use Rattle.std.proofs.Common.{◌∙◌, ap}
use Rattle.in_place.specs.Layout.{facility_at}
use Rattle.in_place.specs.Stores.{Becomes}
use Rattle.state.specs.declared.Facility.{Facility}

pub becomes_then : (s m q : List ℕ) (f : Facility) (F : Facility → Facility) → Becomes s m f → Becomes m q (F (facility_at m)) → Becomes s q (F f)
becomes_then s m q f F a b = (b.0 ∙ ap F a.0, b.1 ∙ a.1)
