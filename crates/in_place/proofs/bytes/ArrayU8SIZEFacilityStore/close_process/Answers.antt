-- The opens are lent, and come back as the call leaves them.
use native.Mathlib.Omega.{arith}
use Rattle.in_place.proofs.Fields.{opens_lent}
use Rattle.opens.specs.Laws.Loops.{length_process_closed}
use Rattle.opens.specs.Opens.{close_process}
use Rattle.in_place.proofs.bytes.ArrayU8SIZEFacilityStore.close_process.Goals as goal

pub returns : goal.returns
returns c =
    let a = c.args in
    let e = c.start.ensures in
    opens_lent (λ o. close_process o a.p) a.self.now _ _ _ (λ o. length_process_closed o a.p) e (omega (arith, e)) c.told-self c.close_process.ensures
