-- What failed, and the object that the flag comes from.
use Rattle.words.proofs.Parts.{reason_found}
use Rattle.words.proofs.reason_of.Goals as goal

pub returns : goal.returns
returns g c =
    let a = c.args in
    reason_found (g.S.FacilityStore.facility a.s.now) a.n a.v a.c _ _ c.failed_by-failed.ensures c.source.ensures
