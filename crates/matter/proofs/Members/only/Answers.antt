-- The result is `only_member c`.
use Prim.Native.Nat.{◌-◌}
use borrow.Author.Tests.{lt-ltb, le-ltb}
use borrow.Author.Rules.{rules}
use Rattle.matter.specs.LedgerSteps.{per_word, only_member}
use Rattle.matter.specs.Laws.BitRows.{power_fits}
use Rattle.matter.proofs.Members.only.Goals as goal

pub returns-then-c-lt-PER_WORD : goal.returns-then-c-lt-PER_WORD
unfolding only_member
returns-then-c-lt-PER_WORD c = rw (lt-ltb _ _ c.if-c-lt-PER_WORD.true, power_fits c.args.c c.if-c-lt-PER_WORD.true)

pub returns-then-c-lt-OBJECTS : goal.returns-then-c-lt-OBJECTS
unfolding only_member
returns-then-c-lt-OBJECTS c = rw (le-ltb _ _ c.if-c-lt-PER_WORD.false, lt-ltb _ _ c.if-c-lt-OBJECTS.true, power_fits (c.args.c - per_word) (search rules))

pub returns : goal.returns
unfolding only_member
returns c = rw (le-ltb _ _ c.if-c-lt-PER_WORD.false, le-ltb _ _ c.if-c-lt-OBJECTS.false, c.none.ensures)
