-- The bytes of a process are stored, one after the other.
use mathlib.Core.Path.{refl}
use Rattle.in_place.proofs.Changed.{process_stored}
use Rattle.in_place.specs.Layout.{field_of, the_runnings, the_owners, the_currents, the_readmarks, the_writemarks, the_automatics, the_moves}
use Rattle.in_place.specs.Layout.{the_currentsets, the_readsets, the_writesets}
use Rattle.in_place.proofs.Stored.{stored, padding_fields}
use Rattle.in_place.proofs.bytes.ArrayU8SIZEFacilityStore.put_process.Goals as goal

pub returns : goal.returns
returns c =
    let a = c.args in
    let r = a.r in
    let f = stored a.self.now _ (field_of a.self.now) the_runnings a.p r.running refl c.put.ensures in
    let f = stored _ _ _ the_owners a.p r.owner f c.put-2.ensures in
    let f = stored _ _ _ the_currents a.p r.current.level f c.put-3.ensures in
    let f = stored _ _ _ the_readmarks a.p r.readmark.level f c.put-4.ensures in
    let f = stored _ _ _ the_writemarks a.p r.writemark.level f c.put-5.ensures in
    let f = stored _ _ _ the_automatics a.p r.automatic f c.put-6.ensures in
    let f = stored _ _ _ the_moves a.p r.moves f c.put-7.ensures in
    let f = stored _ _ _ the_currentsets a.p r.current.set f c.put-8.ensures in
    let f = stored _ _ _ the_readsets a.p r.readmark.set f c.put-9.ensures in
    let f = stored _ _ _ the_writesets a.p r.writemark.set f c.put-10.ensures in
    (process_stored a.self.now _ a.p r f, padding_fields a.self.now _ _ f refl)
