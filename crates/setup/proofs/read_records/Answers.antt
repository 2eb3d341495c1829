-- At each record the rest is read as the whole is, and what is no part of a facility stays.
use Rattle.std.specs.Prelude.{Bool, ℕ, ◌*◌, ◌/◌, ◌≡◌, ◌<◌, drop, length, refl}
use Rattle.std.proofs.Common.{◌∙◌, ap, arith, subst, sym}
use Rattle.std.specs.Iterator.Adapters.{enumerate_source, enumerate_count}
use Rattle.std.specs.Slice.Iter.{chunks_exact_rest, chunks_exact_size}
use mathlib.Core.Path.{subst₂}
use Rattle.answers.proofs.Laws.Questions.{no_refusal_is_0}
use Rattle.answers.specs.Outcomes.{refusal_number}
use Rattle.rules.specs.declared.Reading.{Reading}
use Rattle.rules.specs.Setup.{enter_record, refused_setup}
use Rattle.setup.specs.Laws.FirstRecord.{From, from_begins, from_goes_on, from_stops, from_ends}
use Rattle.setup.specs.Laws.ReadingLoop.{chunk_first, chunk_rest, chunk_within, few_whole_records, no_chunk, whole_records}
use Rattle.setup.specs.Laws.SameNumber.{number_by}
use Rattle.setup.specs.Progress.{number_after}
use Rattle.state.specs.declared.Facility.{Facility}
use Rattle.setup.proofs.read_records.Goals as goal

pub loop-k-init : goal.loop-k-init
loop-k-init g c =
    let a = c.args in
    let f = g.S.FacilityStore.facility a.s.now in
    let i = c.into_iter-k-iterator.ensures.into_iter_gives in
    let e = c.enumerate-k-items.ensures in
    let d = c.chunks_exact.ensures in
    let chunks = ap enumerate_source i ∙ e.source in
    let k = ap enumerate_count i ∙ e.count in (
      ap chunks_exact_size chunks ∙ d.size,
      ap chunks_exact_rest chunks ∙ d.rest ∙ ap (λ (n : ℕ). drop (n * 8) a.bytes.now) (sym k),
      subst (λ (n : ℕ). From a.bytes.now (length a.bytes.now / 8) n f c.none_before-before.result) (sym k)
          (from_begins a.bytes.now _ f _ c.none_before-before.ensures),
      g.met.S.FacilityStore.unchanged a.s.now,
    )

pub overflow_cast-k : goal.overflow_cast-k
overflow_cast-k g c =
    let a = c.args in
    let l = c.loop-k in
    let s = c.in-Some.ensures.steps in
    let h = chunk_within a.bytes.now _ _ _ (sym l.invariant.1 ∙ s.0.1.0) (s.0.1.1 ∙ l.invariant.0) in
    let m = (few_whole_records _ c.requires).1 in
    let k = s.1 in
    omega arith

pub returns-in-Err : goal.returns-in-Err
returns-in-Err g c =
    let a = c.args in
    let l = c.loop-k in
    let f = g.S.FacilityStore.facility l.s in
    let s = c.in-Some.ensures.steps in
    let e = sym l.invariant.1 ∙ s.0.1.0 in
    let d = s.0.1.1 ∙ l.invariant.0 in
    let r = c.in-Err.refusal in
    let m : refusal_number r ≡ number_by l.before f c.record_of-r.result
    = c.in-Err.ensures ∙ ap (λ (b : Bool). number_after l.before b c.record_of-r.result) c.parent_fits.ensures in
    let q = (λ i. refused_setup (m i) (s.1 i))
    ∙ from_stops a.bytes.now _ _ f l.before _ (chunk_within a.bytes.now _ _ _ e d) l.invariant.2
    (c.record_of-r.ensures ∙ chunk_first a.bytes.now _ _ _ e d) (λ z. no_refusal_is_0 r refl (m ∙ z))
    ∙ whole_records a.bytes.now c.requires in
    let b = g.met.S.FacilityStore.then a.s.now l.s c.refuse.new.s f (λ (x : Facility). (refused_setup (refusal_number r) c.in-Some.k).facility)
    l.invariant.3 c.refuse.ensures.becomes in
    record {
      value = c.refuse.ensures.value ∙ ap (λ (x : Reading). x.outcome) q;
      becomes = subst (λ (x : Reading). g.S.FacilityStore.becomes a.s.now c.refuse.new.s x.facility) q b;
    }

pub loop-k-preserved : goal.loop-k-preserved
loop-k-preserved g c =
    let a = c.args in
    let l = c.loop-k in
    let f = g.S.FacilityStore.facility l.s in
    let s = c.in-Some.ensures.steps in
    let e = sym l.invariant.1 ∙ s.0.1.0 in
    let d = s.0.1.1 ∙ l.invariant.0 in
    let z : number_by l.before f c.record_of-r.result ≡ 0
    = sym (c.in_default.ensures ∙ ap (λ (b : Bool). number_after l.before b c.record_of-r.result) c.parent_fits.ensures) in
    let t = g.met.S.FacilityStore.stores l.s c.enter_record.new.s _ c.enter_record.ensures in
    let n = from_goes_on a.bytes.now _ _ f l.before _ (chunk_within a.bytes.now _ _ _ e d) l.invariant.2
    (c.record_of-r.ensures ∙ chunk_first a.bytes.now _ _ _ e d) z in
    let b = g.met.S.FacilityStore.then a.s.now l.s c.enter_record.new.s f (λ (x : Facility). enter_record f c.record_of-r.result)
    l.invariant.3 c.enter_record.ensures in (
      s.0.0 ∙ l.invariant.0,
      chunk_rest a.bytes.now _ _ _ e d ∙ ap (λ (k : ℕ). drop (k * 8) a.bytes.now) (sym s.2),
      subst (λ (k : ℕ). From a.bytes.now (length a.bytes.now / 8) k (g.S.FacilityStore.facility c.enter_record.new.s) c.progress_after-before.result) (sym s.2)
          (subst₂ (From a.bytes.now (length a.bytes.now / 8) _) (sym t) (sym c.progress_after-before.ensures) n),
      subst (λ (x : Facility). g.S.FacilityStore.becomes a.s.now c.enter_record.new.s x) (sym t) b,
    )

pub returns : goal.returns
returns g c =
    let a = c.args in
    let l = c.loop-k in
    let f = g.S.FacilityStore.facility l.s in
    let s = c.in-None.ensures.steps in
    let h = subst (λ (n : ℕ). length (chunks_exact_rest (enumerate_source l.k-iterator)) < n) l.invariant.0 s.0.1.0 in
    let q = from_ends a.bytes.now _ _ f l.before (few_whole_records _ c.requires).0 (no_chunk a.bytes.now _ _ l.invariant.1 h) l.invariant.2
    ∙ whole_records a.bytes.now c.requires in
    record {
      value = ap (λ (x : Reading). x.outcome) q;
      becomes = subst (λ (x : Reading). g.S.FacilityStore.becomes a.s.now l.s x.facility) q l.invariant.3;
    }
