-- Refused by an early question: nothing changes. Else what the call comes to tells what it changes.
use Rattle.std.proofs.Common.{◌∙◌, sym}
use Rattle.answers.proofs.Laws.Questions.{no_refusal_is_0}
use Rattle.questions.specs.Laws.Calls.{query_first, refused_stays}
use Rattle.calls.proofs.Seen.{asked_after, asked_query}
use Rattle.calls.proofs.enforce.Goals as goal

pub returns-in-Err : goal.returns-in-Err
returns-in-Err g c =
    let a = c.args in
    let f = g.S.FacilityStore.facility a.s.now in
    let m = no_refusal_is_0 _ c.number.ensures in
    let n = c.number.ensures ∙ c.in-Err.ensures 0 in
    record {
      value = query_first f a.c _ n m;
      becomes = rw (← refused_stays f a.c _ n m) (g.met.S.FacilityStore.unchanged a.s.now);
    }

pub returns-in-Accepted : goal.returns-in-Accepted
returns-in-Accepted g c =
    let a = c.args in
    let f = g.S.FacilityStore.facility a.s.now in
    let v = c.view_asked-v.ensures in
    let q = asked_query f a.c _ _ _ (c.in_default.ensures 0) c.request-q.ensures v c.outcome_later-outcome.ensures in
    record { value = q; becomes = rw (← asked_after f a.c _ _ v (sym c.in-Accepted.is ∙ q)) c.make_accepted.ensures }

pub returns-in-Denied : goal.returns-in-Denied
returns-in-Denied g c =
    let a = c.args in
    let f = g.S.FacilityStore.facility a.s.now in
    let v = c.view_asked-v.ensures in
    let q = asked_query f a.c _ _ _ (c.in_default.ensures 0) c.request-q.ensures v c.outcome_later-outcome.ensures in
    record { value = q; becomes = rw (← asked_after f a.c _ _ v (sym c.in-Denied.is ∙ q)) c.count_refusal.ensures }

pub returns-in-Refused : goal.returns-in-Refused
returns-in-Refused g c =
    let a = c.args in
    let f = g.S.FacilityStore.facility a.s.now in
    let v = c.view_asked-v.ensures in
    let q = asked_query f a.c _ _ _ (c.in_default.ensures 0) c.request-q.ensures v c.outcome_later-outcome.ensures in
    record { value = q; becomes = rw (← asked_after f a.c _ _ v (sym c.in-Refused.is ∙ q)) (g.met.S.FacilityStore.unchanged a.s.now) }
