-- The opens are lent, and come back as the call leaves them.
use native.Mathlib.Omega.{arith}
use Rattle.in_place.proofs.Fields.{opens_lent}
use Rattle.opens.specs.Laws.Loops.{length_process_copied}
use Rattle.opens.specs.Opens.{copy_process}
use Rattle.in_place.proofs.bytes.ArrayU8SIZEFacilityStore.copy_process.Goals as goal

pub returns : goal.returns
returns c =
    let a = c.args in
    let e = c.start.ensures in
    opens_lent (λ o. copy_process o a.p a.t) a.self.now _ _ _ (λ o. length_process_copied o a.p a.t) e (omega (arith, e)) c.told-self c.copy_process.ensures
