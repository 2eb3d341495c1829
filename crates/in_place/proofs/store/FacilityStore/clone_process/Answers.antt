-- The process is put, and then its marks are copied.
use Rattle.opens.specs.Opens.{copy_process}
use Rattle.state.specs.declared.Facility.{Facility}
use Rattle.state.specs.State.{put_opens, put_process}
use Rattle.in_place.proofs.store.FacilityStore.clone_process.Goals as goal

pub returns : goal.returns
unfolding put_process
returns g c =
    let a = c.args in
    let k = rw c.process-r.ensures at c.put_process.ensures in
    g.met.Self.FacilityStore.then _ _ _ _ (λ (f : Facility). put_opens f (copy_process f.opens a.p a.t)) k c.copy_process.ensures
