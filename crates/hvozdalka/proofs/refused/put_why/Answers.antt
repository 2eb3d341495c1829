-- What failed, in words, with the flag's source.
use Rattle.text.specs.Laws.Puts.{put_as}
use Rattle.hvozdalka.proofs.Why.{text_found}
use Rattle.hvozdalka.proofs.refused.put_why.Goals as goal

pub returns : goal.returns
returns g c =
    let a = c.args in
    put_as (text_found (g.S.FacilityStore.facility a.s.now) a.c _ _ c.failed_of-w.ensures c.source-source.ensures) c.put_failed.ensures
