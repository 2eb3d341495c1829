-- An object more, where there is room.
use Rattle.std.proofs.Common.{lt-ltb, le-ltb}
use Rattle.state.specs.State.{add_object, put_object}
use Rattle.state.proofs.Facility.add_object.Goals as goal

pub returns-then-i-lt-OBJECTS : goal.returns-then-i-lt-OBJECTS
unfolding add_object put_object
returns-then-i-lt-OBJECTS c = rw (lt-ltb _ _ c.if-i-lt-OBJECTS.true)

pub returns-else-i-lt-OBJECTS : goal.returns-else-i-lt-OBJECTS
unfolding add_object
returns-else-i-lt-OBJECTS c = rw (le-ltb _ _ c.if-i-lt-OBJECTS.false)
