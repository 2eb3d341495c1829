-- The result is `flag_failed k v c`.
use Rattle.labels.specs.Decisions.{◌and◌}
use Rattle.reasons.specs.Reasons.{flag_failed}
use Rattle.reasons.proofs.flag_failed.Goals as goal

pub returns-then-v-target : goal.returns-then-v-target
unfolding flag_failed ◌and◌
returns-then-v-target c =
    rw (c.forbidding.ensures, c.class_in.ensures, ← c.needs_object-target.ensures, c.if-v-target.true)

pub returns : goal.returns
unfolding flag_failed ◌and◌
returns c = rw (← c.needs_object-target.ensures, c.if-v-target.false)
