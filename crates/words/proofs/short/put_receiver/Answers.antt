-- After a signal or a cloning the target is told where it is not what it was, and else nothing.
use Rattle.labels.specs.Decisions.{◌and◌, ◌or◌}
use Rattle.text.specs.Laws.Puts.{◌▹◌}
use Rattle.words.proofs.short.put_receiver.Goals as goal

pub returns-then-signal-clone : goal.returns-then-signal-clone
unfolding ◌and◌ ◌or◌
returns-then-signal-clone c =
    rw (← c.is_send_signal-signal.ensures, ← c.is_clone-clone.ensures, ← c.same_process.ensures, c.if-signal-clone.true)
    (c.put_one.ensures ▹ c.put_labels.ensures)

pub returns : goal.returns
unfolding ◌and◌ ◌or◌
returns c =
    rw (← c.is_send_signal-signal.ensures, ← c.is_clone-clone.ensures, ← c.same_process.ensures, c.if-signal-clone.false) c.nothing.ensures
