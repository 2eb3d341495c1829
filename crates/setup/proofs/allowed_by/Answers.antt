-- The tests of the seven bytes and of all together.
use Rattle.labels.specs.Decisions.{◌and◌}
use Rattle.rules.specs.Kinds.{allowed_by}
use Rattle.setup.proofs.allowed_by.Goals as goal

pub returns : goal.returns
unfolding allowed_by ◌and◌
returns c =
    rw (
      c.also_allowed.ensures,
      c.byte_allowed-7.ensures,
      c.byte_allowed-6.ensures,
      c.byte_allowed-5.ensures,
      c.byte_allowed-4.ensures,
      c.byte_allowed-3.ensures,
      c.byte_allowed-2.ensures,
      c.byte_allowed.ensures,
    )
