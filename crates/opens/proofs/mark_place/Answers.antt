-- The place of the marks: the end where the object's number is none, else as the definition has it.
use mathlib.Core.Path.{sym}
use Rattle.opens.specs.Laws.Opens.{mark_place_law, no_object_place}
use Rattle.opens.proofs.mark_place.Goals as goal

pub returns-then-t-ge-OBJECTS : goal.returns-then-t-ge-OBJECTS
returns-then-t-ge-OBJECTS c = sym (no_object_place c.args.p c.args.t c.if-t-ge-OBJECTS.true)

pub returns : goal.returns
returns c = sym (mark_place_law c.args.p c.args.t c.if-t-ge-OBJECTS.false)
