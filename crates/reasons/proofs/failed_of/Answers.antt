-- The number is that of the outcome, which is query's.
use Rattle.questions.specs.Laws.Calls.{enforced_outcome}
use Rattle.reasons.proofs.Found.{failed_found}
use Rattle.reasons.proofs.failed_of.Goals as goal

pub returns : goal.returns
returns g c =
    let v = c.view_of-v.ensures in
    let a = c.args in
    let f = g.S.FacilityStore.facility a.s.now in
    failed_found f a.c _ _ _ _ v (enforced_outcome f a.c _ _ c.outcome_in-o.ensures v) c.number.ensures c.failed_by.ensures
