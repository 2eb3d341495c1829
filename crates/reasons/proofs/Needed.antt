-- A condition that failed refuses by itself.
use Rattle.std.specs.Prelude.{◌≡◌, refl, Bool, not}
use Rattle.std.proofs.Math.Bool.{true, false}
use Rattle.labels.specs.declared.Label.{Label}
use Rattle.labels.specs.Decisions.{◌and◌, ◌or◌, on}
use Rattle.labels.specs.Labels.{leq, same, join}
use Rattle.labels.proofs.Laws.Decisions.{clash}
use Rattle.state.specs.declared.Process.{Process}
use Rattle.state.specs.State.{is_automatic}
use Rattle.rules.specs.Modules.{may_read, may_write, may_set}
use Rattle.reasons.specs.Reasons.{unless, read_failed, write_failed, set_failed}
use Rattle.reasons.specs.Explained.{Alone, Needed}

-- one of four that are asked where the label is not held: h held, a automatic, o over the read mark, u under the write mark, d under the clearance
by_fixed : (h a o u d : Bool) → (not h and not a) ≡ true → (h or (a and o and u and d)) ≡ false
unfolding ◌and◌ ◌or◌
by_fixed true a o u d e = clash e refl
by_fixed false true o u d e = clash e refl
by_fixed false false o u d e = refl

by_readmark : (h a o u d : Bool) → (not h and not o) ≡ true → (h or (a and o and u and d)) ≡ false
unfolding ◌and◌ ◌or◌
by_readmark true a o u d e = clash e refl
by_readmark false a true u d e = clash e refl
by_readmark false true false u d e = refl
by_readmark false false false u d e = refl

by_writemark : (h a o u d : Bool) → (not h and not u) ≡ true → (h or (a and o and u and d)) ≡ false
unfolding ◌and◌ ◌or◌
by_writemark true a o u d e = clash e refl
by_writemark false a o true d e = clash e refl
by_writemark false true true false d e = refl
by_writemark false true false false d e = refl
by_writemark false false o false d e = refl

by_clearance : (h a o u d : Bool) → (not h and not d) ≡ true → (h or (a and o and u and d)) ≡ false
unfolding ◌and◌ ◌or◌
by_clearance true a o u d e = clash e refl
by_clearance false a o u true e = clash e refl
by_clearance false true true true false e = refl
by_clearance false true true false false e = refl
by_clearance false true false u false e = refl
by_clearance false false o u false e = refl

module _ (l : Label) (r : Process) (clr : Label) where
  writes_alone : Alone may_write write_failed l r clr
  unfolding may_write write_failed unless
  writes_alone =
      let h = same l r.current in
      record {
        fixed = λ e low high c. by_fixed h (is_automatic r) (leq low l) (leq l high) (leq l c) e;
        readmark = λ e high c a. by_readmark h (on a) (leq r.readmark l) (leq l high) (leq l c) e;
        writemark = λ e low c a. by_writemark h (on a) (leq low l) (leq l r.writemark) (leq l c) e;
        clearance = λ e low high a. by_clearance h (on a) (leq low l) (leq l high) (leq l clr) e;
      }

  reads_alone : Alone may_read read_failed l r clr
  unfolding may_read read_failed unless ◌and◌
  reads_alone =
      let h = leq l r.current in
      let j = join r.current l in
      record {
        fixed = λ e low high c. by_fixed h (is_automatic r) true (leq j high) (leq j c) e;
        readmark = λ e high c a. by_readmark h (on a) true (leq j high) (leq j c) e;
        writemark = λ e low c a. by_writemark h (on a) true (leq j r.writemark) (leq j c) e;
        clearance = λ e low high a. by_clearance h (on a) true (leq j high) (leq j clr) e;
      }

  sets_alone : Alone may_set set_failed l r clr
  unfolding may_set set_failed unless ◌and◌ ◌or◌
  sets_alone =
      record {
        fixed = λ e low high c. by_fixed false true (leq low l) (leq l high) (leq l c) e;
        readmark = λ e high c a. by_readmark false true (leq r.readmark l) (leq l high) (leq l c) e;
        writemark = λ e low c a. by_writemark false true (leq low l) (leq l r.writemark) (leq l c) e;
        clearance = λ e low high a. by_clearance false true (leq low l) (leq l high) (leq l clr) e;
      }

  pub needed : Needed l r clr
  needed = record { reads = reads_alone; writes = writes_alone; sets = sets_alone }
