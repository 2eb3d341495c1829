-- What the call looks at before and after it, and what it comes to.
use Rattle.words.proofs.Parts.{told_found}
use Rattle.words.proofs.told_of.Goals as goal

pub returns : goal.returns
returns g c =
    let a = c.args in
    let f = g.S.FacilityStore.facility a.s.now in
    let e = c.enforce-outcome.ensures in
    let h = g.met.S.FacilityStore.stores a.s.now c.enforce-outcome.new.s _ e.becomes in
    record {
      value = told_found a.index f _ a.c _ _ _ _ _ _ _ c.view_of-before.ensures c.query-foretold.ensures c.number.ensures c.reason_of-reason.ensures
          e.value h c.view_of.ensures c.refusals.ensures;
      becomes = e.becomes;
    }
