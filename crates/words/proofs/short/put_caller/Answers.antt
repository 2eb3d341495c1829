-- After a denial, or where the caller is not what it was, it is told, and else nothing.
use Rattle.labels.specs.Decisions.{◌or◌}
use Rattle.text.specs.Laws.Puts.{◌▹◌}
use Rattle.words.proofs.short.put_caller.Goals as goal

pub returns-then-denied-same_process : goal.returns-then-denied-same_process
unfolding ◌or◌
returns-then-denied-same_process c =
    rw (← c.number.ensures, ← c.is_denial-denied.ensures, ← c.same_process.ensures, c.if-denied-same_process.true)
    (c.text.ensures ▹ c.put_labels.ensures)

pub returns : goal.returns
unfolding ◌or◌
returns c =
    rw (← c.number.ensures, ← c.is_denial-denied.ensures, ← c.same_process.ensures, c.if-denied-same_process.false) c.nothing.ensures
