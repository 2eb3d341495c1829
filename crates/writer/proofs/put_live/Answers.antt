-- A live object has its record, another none.
use Rattle.state.specs.State.{objects_in}
use Rattle.writer.proofs.WritingLoop.{dead_stored}
use Rattle.writer.proofs.put_live.Goals as goal

pub returns : goal.returns
returns g c =
    let a = c.args in
    dead_stored a.out.now a.place (objects_in (g.S.FacilityStore.facility a.s.now)) a.o c.if-o-eq1.false
