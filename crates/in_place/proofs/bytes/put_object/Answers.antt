-- The bytes of an object are stored, one after the other.
use mathlib.Core.Path.{refl}
use Rattle.in_place.specs.Layout.{field_of, the_lives, the_kinds, the_levels, the_categories, the_datatypes, the_flags, the_parents, the_sets}
use Rattle.in_place.proofs.Stored.{stored}
use Rattle.in_place.proofs.bytes.put_object.Goals as goal

pub returns : goal.returns
returns c =
    let a = c.args in
    let o = a.o in
    let f = stored a.s.now _ (field_of a.s.now) the_lives a.i o.live refl c.put.ensures in
    let f = stored _ _ _ the_kinds a.i o.kind f c.put-2.ensures in
    let f = stored _ _ _ the_levels a.i o.label.level f c.put-3.ensures in
    let f = stored _ _ _ the_categories a.i o.category f c.put-4.ensures in
    let f = stored _ _ _ the_datatypes a.i o.datatype f c.put-5.ensures in
    let f = stored _ _ _ the_flags a.i o.flags f c.put-6.ensures in
    let f = stored _ _ _ the_parents a.i o.parent f c.put-7.ensures in
    stored _ _ _ the_sets a.i o.label.set f c.put-8.ensures
