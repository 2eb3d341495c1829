-- By the length: refused, or its records read.
use Rattle.std.proofs.Common.{◌∙◌, ap, subst, sym}
use Rattle.rules.specs.declared.Reading.{Reading}
use Rattle.setup.specs.Laws.ReadingLoop.{refused_length_law}
use Rattle.setup.proofs.read_in.Goals as goal

pub returns-then-not-allowed_length : goal.returns-then-not-allowed_length
returns-then-not-allowed_length g c =
    let a = c.args in
    let q = refused_length_law a.bytes.now (sym c.allowed_length.ensures ∙ c.if-not-allowed_length.true) in
    record {
      value = c.refuse.ensures.value ∙ ap (λ (x : Reading). x.outcome) q;
      becomes = subst (λ (x : Reading). g.S.FacilityStore.becomes a.s.now c.refuse.new.s x.facility) q c.refuse.ensures.becomes;
    }
