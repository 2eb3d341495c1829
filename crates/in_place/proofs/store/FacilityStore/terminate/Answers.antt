-- The process is put, and then its marks go.
use Rattle.opens.specs.Opens.{close_process}
use Rattle.state.specs.declared.Facility.{Facility}
use Rattle.state.specs.State.{put_opens, put_process}
use Rattle.in_place.proofs.store.FacilityStore.terminate.Goals as goal

pub returns : goal.returns
unfolding put_process
returns g c =
    let p = c.args.p in
    let k = rw c.none.ensures at c.put_process.ensures in
    g.met.Self.FacilityStore.then _ _ _ _ (λ (f : Facility). put_opens f (close_process f.opens p)) k c.close_process.ensures
