-- The first pass tells the length: there is no room for it, or all is written.
use Rattle.std.specs.Prelude.{List, length, ℕ, ◌≤◌, ◌<◌, ◌++◌}
use Rattle.std.proofs.Common.{◌∙◌, ap, arith, subst}
use Rattle.rules.specs.Setup.{setup_records}
use Rattle.writer.specs.Writing.{Stored}
use Rattle.writer.proofs.WritingLoop.{put_none, no_room, all_room}
use Rattle.writer.proofs.write_setup.Goals as goal

pub returns-then-out-need : goal.returns-then-out-need
returns-then-out-need g c =
    let p = c.put_sections-need in
    let f = g.S.FacilityStore.facility c.args.s.now in
    let o = c.args.out.now in
    let e = p.ensures.buffer ∙ put_none 0 (setup_records f) in
    let h : length o < p.result = subst (λ (q : List ℕ). length (q ++ o) < p.result) e c.if-out-need.true in
    let r = no_room f o _ _ p.result p.ensures h in
    record { value = r.told; out_after = ap (λ (q : List ℕ). q ++ o) e ∙ r.left }

pub returns : goal.returns
returns g c =
    let q = c.put_sections in
    let p = c.put_sections-need in
    let f = g.S.FacilityStore.facility c.args.s.now in
    let o = c.args.out.now in
    let e = p.ensures.buffer ∙ put_none 0 (setup_records f) in
    let h : p.result ≤ length o = subst (λ (x : List ℕ). p.result ≤ length (x ++ o)) e c.if-out-need.false in
    let s = subst (λ (x : List ℕ). Stored (x ++ o) 0 (setup_records f) q.new.out q.result) e q.ensures in
    let k : q.result ≤ length o = omega (arith, p.ensures.place, q.ensures.place) in
    let r = all_room f o _ q.result k s in
    record { value = r.told; out_after = r.left }
