-- The chunk of the user's number is its counter; there are sixteen.
use mathlib.Core.Path.{◌≡◌, ◌∙◌, ap, sym}
use mathlib.Core.List.{List}
use Prim.Native.Nat.{ℕ, ◌*◌, ◌/◌}
use lib.ListN.{length, get_or, get_or-eq_default}
use native.Mathlib.Omega.{arith}
use Rattle.std.specs.Simd.{first_chunks}
use Rattle.state.specs.State.{most_users}
use Rattle.in_place.specs.Layout.{facility_at, field_of, the_refusals}
use Rattle.in_place.proofs.Changed.{field_length}
use Rattle.in_place.proofs.Words.{chunk_read, words_length}
use Rattle.in_place.proofs.bytes.ArrayU8SIZEFacilityStore.refusals.Goals as goal

pub returns-in-Some : goal.returns-in-Some
unfolding facility_at
returns-in-Some c =
    let l = field_of c.args.self.now the_refusals in
    let n : length l ≡ 4 * most_users = field_length c.args.self.now the_refusals (omega (arith, c.told-self)) in
    let e = c.of.ensures in
    let m : length c.of.result.now ≡ 4 * most_users = ap length e ∙ n in
    let b = c.in-Some.ensures.lookup in
    let k = c.as_chunks.ensures.front_len in
    let q = c.as_chunks.ensures.front ∙ (λ i. first_chunks 4 (length (e i) / 4) (e i)) in
    let h = b.3.0 in
    chunk_read l _ _ (length l / 4) c.args.u _ (omega (arith, h, k, m, n)) (omega (arith, h, k, m))
    (b.1 ∙ ap (λ (x : List (List ℕ)). get_or x c.args.u c.in-Some.bytes.now) q) c.from_le_bytes.ensures

pub returns-in-None : goal.returns-in-None
unfolding facility_at
returns-in-None c =
    let f = facility_at c.args.self.now in
    let m : length c.of.result.now ≡ 4 * most_users = ap length c.of.ensures ∙ field_length c.args.self.now the_refusals (omega (arith, c.told-self)) in
    let h : length f.refusals ≡ most_users = words_length (field_of c.args.self.now the_refusals) in
    sym (get_or-eq_default f.refusals 0 (omega (arith, h, m, c.as_chunks.ensures.front_len, c.in-None.ensures.lookup.3)))
