-- The result is `is_member self c`.
use borrow.Author.Tests.{lt-ltb, le-ltb}
use Rattle.matter.specs.LedgerSteps.{bit, is_member}
use Rattle.matter.proofs.Members.has.Goals as goal

pub returns-then-c-lt-PER_WORD : goal.returns-then-c-lt-PER_WORD
unfolding is_member bit
returns-then-c-lt-PER_WORD c = rw (lt-ltb _ _ c.if-c-lt-PER_WORD.true)

pub returns-then-c-lt-OBJECTS : goal.returns-then-c-lt-OBJECTS
unfolding is_member bit
returns-then-c-lt-OBJECTS c = rw (le-ltb _ _ c.if-c-lt-PER_WORD.false, lt-ltb _ _ c.if-c-lt-OBJECTS.true)

pub returns : goal.returns
unfolding is_member
returns c = rw (le-ltb _ _ c.if-c-lt-PER_WORD.false, le-ltb _ _ c.if-c-lt-OBJECTS.false)
