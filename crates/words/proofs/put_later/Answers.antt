-- After a signal the receiver is told, after a cloning the clone, and else nothing.
use Rattle.labels.specs.Decisions.{◌or◌}
use Rattle.text.specs.Laws.Puts.{◌▹◌}
use Rattle.words.proofs.put_later.Goals as goal

pub returns-then-is_send_signal-is_clone : goal.returns-then-is_send_signal-is_clone
unfolding ◌or◌
returns-then-is_send_signal-is_clone c =
    rw (← c.is_clone.ensures, ← c.is_send_signal.ensures, c.if-is_send_signal-is_clone.true)
    (c.put_one.ensures ▹ c.put_process.ensures)

pub returns : goal.returns
unfolding ◌or◌
returns c = rw (← c.is_clone.ensures, ← c.is_send_signal.ensures, c.if-is_send_signal-is_clone.false) c.nothing.ensures
