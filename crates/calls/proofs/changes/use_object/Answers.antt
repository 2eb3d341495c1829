-- The process is put, and then the opens change.
use Rattle.state.specs.declared.Facility.{Facility}
use Rattle.state.specs.State.{open_by}
use Rattle.calls.proofs.changes.use_object.Goals as goal

pub returns : goal.returns
returns g c =
    let a = c.args in
    g.met.S.FacilityStore.then _ _ _ _ (λ (f : Facility). open_by a.change f a.p a.t) c.put_process.ensures c.change_opens.ensures
