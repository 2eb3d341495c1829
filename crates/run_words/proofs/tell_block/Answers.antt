-- A call that is told leads on as it does in a run, and where none is left the run is done.
use Prim.Native.Nat.{ℕ, ◌+◌, ◌<◌}
use mathlib.Core.Path.{◌≡◌, refl, sym, ap, ◌∙◌}
use mathlib.Core.List.{List, [], ◌∷◌, ◌++◌}
use lib.ListN.{length, length-append}
use Rattle.std.specs.Iterator.Adapters.{enumerate_source}
use Rattle.std.specs.Slice.Iter.{chunks_exact_rest}
use native.Mathlib.Omega.{arith}
use borrow.Author.Rules.{rules}
use Rattle.history.specs.CallBytes.{call_from}
use Rattle.state.specs.declared.Facility.{Facility}
use Rattle.rules.specs.Calls.{after}
use Rattle.rules.specs.Histories.{run}
use Rattle.rules.specs.Lines.{calls_of}
use Rattle.history.specs.Laws.CallBytes.{run_done}
use Rattle.run_words.proofs.tell_block.Goals as goal

run_four : (f : Facility) (x t : List ℕ) → length x ≡ 4 → run f (calls_of (x ++ t)) ≡ run (after f (call_from x 0)) (calls_of t)
unfolding run calls_of
run_four f [] t h = absurd (omega arith)
run_four f (a ∷ []) t h = absurd (omega arith)
run_four f (a ∷ b ∷ []) t h = absurd (omega arith)
run_four f (a ∷ b ∷ d ∷ []) t h = absurd (omega arith)
run_four f (a ∷ b ∷ d ∷ e ∷ []) t h = refl
run_four f (a ∷ b ∷ d ∷ e ∷ u ∷ x) t h = absurd (omega arith)

pub loop-i-preserved : goal.loop-i-preserved
loop-i-preserved g c =
    let l = c.loop-i in
    let s = c.in-Some.ensures.steps in
    let bytes = c.in-Some.bytes.now in
    let rest = chunks_exact_rest (enumerate_source c.next.new.self) in
    let four : length bytes ≡ 4 = s.0.1.1 ∙ l.invariant.0 in
    let long = ap length s.0.1.0 ∙ length-append bytes rest in
    let is = c.tell.ensures.becomes ∙ ap (after l.f) c.call_at-c.ensures in (
      s.0.0 ∙ l.invariant.0,
      (let count = s.2 in let bound = l.invariant.1 in omega arith),
      ap (λ (f : Facility). run f (calls_of rest)) is ∙ sym (run_four l.f bytes rest four)
          ∙ ap (λ (q : List ℕ). run l.f (calls_of q)) (sym s.0.1.0) ∙ l.invariant.2,
    )

pub returns : goal.returns
returns g c =
    let l = c.loop-i in
    let rest = chunks_exact_rest (enumerate_source l.i-iterator) in
    let few : length rest < 0 + 4 = let size = l.invariant.0 in let s = c.in-None.ensures.steps.0.1.0 in omega arith in
    let e : l.f ≡ run c.args.start (calls_of c.args.calls.now) = sym (run_done l.f rest 0 few) ∙ l.invariant.2 in
    search rules
