-- The first flag that forbids, in the definition's order.
use Rattle.labels.specs.Decisions.{◌and◌, ◌or◌}
use Rattle.rules.specs.FileFlags.{forbidding}
use Rattle.flags.proofs.forbidding.Goals as goal

pub returns-then-has-changes : goal.returns-then-has-changes
unfolding forbidding ◌and◌ ◌or◌
returns-then-has-changes c =
    rw (
      ← c.has.ensures,
      ← c.alters.ensures,
      c.if-has-changes.true,
    )

pub returns-then-has-request : goal.returns-then-has-request
unfolding forbidding ◌and◌ ◌or◌
returns-then-has-request c =
    rw (
      ← c.has-2.ensures,
      ← c.has.ensures,
      ← c.alters.ensures,
      c.if-has-request.true,
      c.if-has-changes.false,
    )

pub returns-then-has-request-2 : goal.returns-then-has-request-2
unfolding forbidding ◌and◌ ◌or◌
returns-then-has-request-2 c =
    rw (
      ← c.has-3.ensures,
      ← c.has-2.ensures,
      ← c.has.ensures,
      ← c.alters.ensures,
      c.if-has-request-2.true,
      c.if-has-request.false,
      c.if-has-changes.false,
    )

pub returns-then-has-kind : goal.returns-then-has-kind
unfolding forbidding ◌and◌ ◌or◌
returns-then-has-kind c =
    rw (
      ← c.has-4.ensures,
      ← c.has-3.ensures,
      ← c.has-2.ensures,
      ← c.has.ensures,
      ← c.alters.ensures,
      c.if-has-kind.true,
      c.if-has-request-2.false,
      c.if-has-request.false,
      c.if-has-changes.false,
    )

pub returns : goal.returns
unfolding forbidding ◌and◌ ◌or◌
returns c =
    rw (
      ← c.has-4.ensures,
      ← c.has-3.ensures,
      ← c.has-2.ensures,
      ← c.has.ensures,
      ← c.alters.ensures,
      c.if-has-kind.false,
      c.if-has-request-2.false,
      c.if-has-request.false,
      c.if-has-changes.false,
    )
