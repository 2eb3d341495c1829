-- Each change of the opens is its method.
use Rattle.state.specs.State.{open_by}
use Rattle.in_place.proofs.store.FacilityStore.change_opens.Goals as goal

pub returns-in-Keep : goal.returns-in-Keep
unfolding open_by
returns-in-Keep g c = rw c.in-Keep.is (g.met.Self.FacilityStore.unchanged c.args.self.now)

pub returns-in-Add : goal.returns-in-Add
unfolding open_by
returns-in-Add g c = rw c.in-Add.is c.open.ensures

pub returns-in-Close : goal.returns-in-Close
unfolding open_by
returns-in-Close g c = rw c.in-Close.is c.put_marks.ensures

pub returns-in-CloseAll : goal.returns-in-CloseAll
unfolding open_by
returns-in-CloseAll g c = rw c.in-CloseAll.is c.delete.ensures
