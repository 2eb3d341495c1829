-- The lines of the calls that are left, stored behind those so far, make the whole.
use Rattle.std.specs.Prelude.{◌*◌, ◌/◌, ◌≤◌, length}
use Rattle.std.proofs.Common.{arith, rules, subst, sym}
use Rattle.rules.specs.Calls.{after}
use Rattle.state.specs.declared.Facility.{Facility}
use Rattle.lines.proofs.Blocks.{left_next, process_bytes_law, block_none, block_done}
use Rattle.lines.proofs.put_lines.Goals as goal

pub returns-then-first-ge9223372036854775808 : goal.returns-then-first-ge9223372036854775808
returns-then-first-ge9223372036854775808 g c =
    let a = c.args in
    let f = g.S.FacilityStore.facility a.s.now in
    let b = block_none a.out.now _ a.first f a.calls.now c.nothing.ensures c.if-first-ge9223372036854775808.true in
    record {
      stored = b.stored;
      becomes = subst (λ (x : Facility). g.S.FacilityStore.becomes a.s.now a.s.now x) b.facility (g.met.S.FacilityStore.unchanged a.s.now);
      calls_len_bound = b.most;
    }

pub loop-k-preserved : goal.loop-k-preserved
loop-k-preserved g c =
    let l = c.loop-k in
    let a = c.args in
    let f = g.S.FacilityStore.facility l.s in
    let e = c.enforce-outcome.ensures in
    let h = g.met.S.FacilityStore.stores l.s c.enforce-outcome.new.s _ e.becomes in
    let b = process_bytes_law _ (g.S.FacilityStore.facility c.enforce-outcome.new.s) _ c.process-caller.ensures in
    let p = c.put_line.ensures in
    let t = g.met.S.FacilityStore.then a.s.now l.s c.enforce-outcome.new.s f (λ (x : Facility). after f c.call_at-c.result) l.invariant.1 e.becomes in (
      left_next a.out.now a.first _ a.calls.now l.out f l.k _ _ _ _ _ _ l.invariant.0 (search rules)
          c.call_at-c.ensures e.value h b.0 b.1 p.stored p.level_len_bound,
      subst (λ (x : Facility). g.S.FacilityStore.becomes a.s.now c.enforce-outcome.new.s x) (sym h) t,
    )

pub returns : goal.returns
returns g c =
    let l = c.loop-k in
    let a = c.args in
    let f = g.S.FacilityStore.facility a.s.now in
    let k : length a.calls.now / 4 ≤ l.k = search rules in
    let b =
    block_done a.out.now a.first f a.calls.now l.out _ (g.S.FacilityStore.facility l.s) (4 * l.k)
    c.if-first-ge9223372036854775808.false l.invariant.0 (omega (arith, l.auto.k-end)) (omega (arith, k)) in
    record {
      stored = b.stored;
      becomes = subst (λ (x : Facility). g.S.FacilityStore.becomes a.s.now l.s x) b.facility l.invariant.1;
      calls_len_bound = b.most;
    }
