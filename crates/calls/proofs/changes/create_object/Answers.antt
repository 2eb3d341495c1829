-- The process is put, and then the object is entered.
use Rattle.state.specs.declared.Facility.{Facility}
use Rattle.state.specs.State.{add_object}
use Rattle.calls.proofs.changes.create_object.Goals as goal

pub returns : goal.returns
returns g c = g.met.S.FacilityStore.then _ _ _ _ (λ (f : Facility). add_object f c.args.o) c.put_process.ensures c.add_object.ensures
