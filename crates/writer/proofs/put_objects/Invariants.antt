-- The section so far.
use Rattle.rules.specs.Setup.{object_record, written_object}
use Rattle.state.specs.State.{objects_in}
use Rattle.writer.specs.Writing.{live_in}
use Rattle.writer.proofs.WritingLoop.{Storing}
use Rattle.writer.proofs.put_objects.Given as goal

abbrev pub invariant-loop-t : goal.invariant-loop-t
invariant-loop-t g l =
    let f = g.S.FacilityStore.facility l.s in
    Storing object_record (live_in (objects_in f)) (written_object (objects_in f)) f.entered l.initial.out l.start l.t l.out l.place
