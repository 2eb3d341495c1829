-- A set-up that is written out is no longer than the buffer.
use Prim.Native.Nat.{ℕ, ◌≤◌}
use mathlib.Core.Path.{◌≡◌, sym, ap, ◌∙◌}
use mathlib.Core.List.{List}
use lib.Dec.{leb}
use lib.ListN.{length, length-append}
use lib.Seq.{length-take-le}
use native.Mathlib.Omega.{arith}
use Rattle.answers.specs.Outcomes.{WriteOutcome, write_length, written}
use Rattle.labels.proofs.Laws.Decisions.{by_test}
use Rattle.rules.specs.Setup.{setup_bytes, write_setup}
use Rattle.state.specs.declared.Facility.{Facility}
use Rattle.trials.proofs.show_written.Goals as goal

fits : (f : Facility) (o : List ℕ) → write_length (write_setup f o).outcome ≤ length (write_setup f o).buffer
unfolding write_setup
fits f o =
    by_test (leb (length (setup_bytes f)) (length o)) (λ t. rw t (simp length-append (omega arith))) (λ t. rw t (omega arith))

within : (f : Facility) (o l : List ℕ) (w : WriteOutcome) (n : ℕ) → w ≡ (write_setup f o).outcome → l ≡ (write_setup f o).buffer → w ≡ written n
    → n ≤ length l
within f o l w n e b is = let m = ap write_length (sym is ∙ e) in let q = ap length b in let r = fits f o in omega arith

pub slice_bounds-weighed-end : goal.slice_bounds-weighed-end
slice_bounds-weighed-end g c =
    let w = c.write_setup in
    within c.args.f c.args.out.now _ _ _ w.ensures.value w.ensures.out_after c.in-Ok.is

pub slice_bounds-weighed-end-in-Ok : goal.slice_bounds-weighed-end-in-Ok
slice_bounds-weighed-end-in-Ok g c =
    let w = c.write_setup in
    sym (length-take-le _ _ (within c.args.f c.args.out.now _ _ _ w.ensures.value w.ensures.out_after c.in-Ok.is))
