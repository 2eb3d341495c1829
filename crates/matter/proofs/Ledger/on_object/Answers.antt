-- The result is `on_object_of self c`.
use Rattle.matter.specs.LedgerSteps.{by_class, on_object_of}
use Rattle.matter.proofs.Ledger.on_object.Goals as goal

pub returns-then-takes : goal.returns-then-takes
unfolding on_object_of by_class
returns-then-takes c =
    rw (← c.at.ensures, ← c.class_of-k.ensures, ← c.takes.ensures, c.if-takes.true, c.process_gains.ensures)

pub returns-then-gives : goal.returns-then-gives
unfolding on_object_of by_class
returns-then-gives c =
    rw (
      ← c.at.ensures,
      ← c.class_of-k.ensures,
      ← c.takes.ensures,
      c.if-takes.false,
      ← c.gives.ensures,
      c.if-gives.true,
      c.object_gains.ensures,
    )

pub returns : goal.returns
unfolding on_object_of by_class
returns c =
    rw (← c.at.ensures, ← c.class_of-k.ensures, ← c.takes.ensures, c.if-takes.false, ← c.gives.ensures, c.if-gives.false)
