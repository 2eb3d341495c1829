-- The marks on the object go, and then the object.
use Rattle.state.specs.declared.Facility.{Facility}
use Rattle.state.specs.State.{drop_object}
use Rattle.in_place.proofs.store.FacilityStore.delete.Goals as goal

pub returns : goal.returns
returns g c = g.met.Self.FacilityStore.then _ _ _ _ (λ (f : Facility). drop_object f c.args.t) c.close_object.ensures c.drop_object.ensures
