-- Each change of the opens is its method.
use Rattle.state.specs.State.{open_by}
use Rattle.state.proofs.Facility.used.Goals as goal

pub returns-in-Keep : goal.returns-in-Keep
unfolding open_by
returns-in-Keep c = rw (c.in-Keep.is, c.with_process.ensures)

pub returns-in-Add : goal.returns-in-Add
unfolding open_by
returns-in-Add c = rw (c.in-Add.is, c.opened.ensures, c.with_process-in-Add.ensures)

pub returns-in-Close : goal.returns-in-Close
unfolding open_by
returns-in-Close c = rw (c.in-Close.is, c.closed.ensures)

pub returns-in-CloseAll : goal.returns-in-CloseAll
unfolding open_by
returns-in-CloseAll c = rw (c.in-CloseAll.is, c.deleted.ensures, c.with_process-in-CloseAll.ensures)
