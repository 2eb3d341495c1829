-- What a turn does, from what the code has at hand.
use Prim.Native.Nat.{ℕ, ◌+◌, ◌*◌, ◌/◌, ◌≤◌, ◌<◌, min}
use mathlib.Core.Bool.{Bool, true, false, cond, ◌&&◌}
use mathlib.Core.Path.{◌≡◌, refl, ap, sym, ◌∙◌, subst}
use mathlib.Core.List.{List, []}
use lib.Dec.{eqb}
use lib.ListN.{length, take, drop, length-take}
use lib.Seq.{sets-eq, take_at}
use native.Mathlib.Omega.{arith}
use Rattle.labels.specs.Decisions.{◌and◌}
use Rattle.state.specs.declared.Facility.{Facility}
use Rattle.rules.specs.Histories.{run}
use Rattle.history.specs.Laws.CallBytes.{no_calls}
use Rattle.in_place.specs.Layout.{facility_at}
use Rattle.in_place.specs.Stores.{Becomes}
use Rattle.text.specs.Stored.{Stored}
use Rattle.lines.specs.Blocks.{block_text, facility_after, indexed}
use Rattle.console.specs.declared.Kept.{Kept}
use Rattle.console.specs.declared.Input.{Input}
use Rattle.console.specs.declared.Written.{Written}
use Rattle.console.specs.Files.{CallsRead, written_of}
use Rattle.run.specs.AllReads.{Turn}
use Rattle.run.proofs.AllReads.{few_lined}

-- a text that fits is held whole
held_whole : (o xs m : List ℕ) (n : ℕ) → Stored o 0 xs m n → length xs ≤ length o → take n m ≡ xs
held_whole o xs m n t h =
    let q = t.1 in
    let e : n ≡ length xs = omega arith in
    ap (take n) (t.0 ∙ sets-eq xs o 0 (omega arith)) ∙ take_at xs (drop (0 + length xs) o) n (sym e)

-- less than a call leaves the facility as it was
unmoved : (first : ℕ) (f : Facility) (calls : List ℕ) → length calls < 4 → f ≡ facility_after first f calls
unfolding facility_after run
unmoved first f calls h = stays (indexed first) ∙ ap (λ (x : Facility). cond (indexed first) x f) (sym (ap (run f) (no_calls calls 0 (omega arith))))
  where
    stays : (b : Bool) → f ≡ cond b f f
    stays true = refl
    stays false = refl

both : (a b : Bool) → a && b ≡ a and b
unfolding ◌and◌
both true b = refl
both false b = refl

nothing_stored : (o xs : List ℕ) (failed : Bool) → failed ≡ true → Stored o 0 (cond failed [] xs) o 0
nothing_stored o xs failed e = rw (e, length) (refl, let q : 0 ≡ min (0 + 0) (length o) = omega arith in q)

pub turn_failed : (k : Kept) (done : ℕ) (s b o : List ℕ) (i : Input) → CallsRead k b i → i.failed ≡ true
    → Turn k done s s b o o (record { done = done + i.lined / 4; input = i; length = 0; taken = 0; more = false })
unfolding ◌and◌
turn_failed k done s b o i c h =
    let few = few_lined k b i c h in
    let n = length-take i.lined b in
    record {
      read = c;
      facility = (unmoved (done + 1) (facility_at s) (take i.lined b) (omega arith), refl);
      stored = nothing_stored o _ i.failed h;
      whole = λ room. ap (λ (x : Bool). cond x [] (block_text (done + 1) (facility_at s) (take i.lined b))) (sym h);
      counted = refl;
      written = omega arith;
      more = sym few.1;
    }

pub turn_written : (k : Kept) (done : ℕ) (s m b o out : List ℕ) (i : Input) (n : ℕ) (w : Written) → CallsRead k b i → i.failed ≡ false
    → Becomes s m (facility_after (done + 1) (facility_at s) (take i.lined b)) → Stored o 0 (block_text (done + 1) (facility_at s) (take i.lined b)) out n
    → length (block_text (done + 1) (facility_at s) (take i.lined b)) ≤ 49 * (length (take i.lined b) / 4) + 6
    → n ≡ length (take n out) → w ≡ written_of (take n out) w.taken → w.taken ≤ length (take n out)
    → Turn k done s m b o out (record { done = done + i.lined / 4; input = i; length = n; taken = w.taken; more = w.all && i.more })
turn_written k done s m b o out i n w c h f t most e d v =
    let text : Bool → List ℕ = λ x. cond x [] (block_text (done + 1) (facility_at s) (take i.lined b)) in
    let u : Stored o 0 (text i.failed) out n = subst (λ (x : Bool). Stored o 0 (text x) out n) (sym h) t in
    let l : length (text i.failed) ≡ length (text false) = ap (λ (x : Bool). length (text x)) h in
    let p = length-take i.lined b in
    record {
      read = c;
      facility = f;
      stored = u;
      whole = λ room. held_whole o (text i.failed) out n u (omega arith);
      counted = refl;
      written = subst (λ (x : ℕ). w.taken ≤ x) (sym e) v;
      more = both w.all i.more
          ∙ ap (λ (x : Bool). x and i.more) (ap (λ (x : Written). x.all) d ∙ ap (λ (x : ℕ). eqb w.taken x) (sym e));
    }
