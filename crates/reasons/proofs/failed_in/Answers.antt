-- The result is `failed_in k v c`.
use Rattle.labels.specs.Decisions.{◌and◌, ◌or◌}
use Rattle.reasons.specs.Reasons.{category_unset, category_failed, data_type_failed, failed_in}
use Rattle.reasons.proofs.failed_in.Goals as goal

pub returns : goal.returns
unfolding category_unset category_failed data_type_failed failed_in ◌and◌ ◌or◌
returns c =
    rw (c.flag_failed.ensures, c.alters.ensures, c.class_in.ensures, c.needs_object-target.ensures, c.mac_failed-m.ensures)
