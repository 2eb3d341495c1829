-- The result is `mac_object k o r u`.
use borrow.Author.Tests.{eq-eqb, ne_eqb}
use Rattle.rules.specs.Modules.{mac_object}
use Rattle.modules.proofs.mac_object.Goals as goal

pub returns-then-not-is_given : goal.returns-then-not-is_given
unfolding mac_object
returns-then-not-is_given c = rw (← c.is_given.ensures, c.if-not-is_given.true)

pub returns-then-u-eq1 : goal.returns-then-u-eq1
unfolding mac_object
returns-then-u-eq1 c =
    rw (
      ← c.is_given.ensures,
      c.if-not-is_given.false,
      eq-eqb _ 1
          c.if-u-eq1.true,
    )

pub returns : goal.returns
unfolding mac_object
returns c =
    rw (c.mac_class.ensures, ← c.is_given.ensures, c.if-not-is_given.false, ne_eqb _ 1 c.if-u-eq1.false)
