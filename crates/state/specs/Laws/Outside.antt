-- Numbers that are none change nothing, and the marks of a pair are that pair's.
use Rattle.std.specs.Prelude.{ℕ, ◌≤◌, ◌<◌, ◌≡◌, ◌≢◌, set, ltb}
use Rattle.std.proofs.Math.Path.{sym, ap}
use Rattle.std.proofs.Common.{◌∙◌, arith, ltb-true, ltb-false}
use mathlib.Core.List.{List}
use Rattle.std.proofs.Math.ListN.{get_or-eq_default}
use Rattle.std.proofs.Math.Seq.{get_or-set_same, get_or-set_other, set_out}
use Rattle.labels.specs.Decisions.{at}
use Rattle.labels.proofs.Laws.Decisions.{by_test, by_eq}
use Rattle.state.specs.Shaped.{Shaped}
use Rattle.opens.specs.Laws.Opens.{mark_place_law, no_object_place, no_process_place}
use Rattle.state.specs.Laws.ReadBack.{process_out, opens_out, deleted_out, opens_kept, counted_none}
use Rattle.opens.specs.Laws.Loops.{no_process_closed, no_process_copied}
use Rattle.state.specs.State.{Facility, opens_of, process_of, no_process, put_process, put_opens, put_marks}
use Rattle.opens.specs.Opens.{most_processes, most_objects, most_opens, place, mark_place, close_process, copy_process}
use Rattle.state.specs.Outside.{Outside, OnePair}

module _ (f : Facility) (s : Shaped f) where
  marks_out : (p t v : ℕ) → most_opens ≤ mark_place p t → put_marks f p t v ≡ f
  marks_out p t v h = opens_out f (mark_place p t) v s.opens h

  none_open : (p t : ℕ) → most_opens ≤ mark_place p t → opens_of f p t ≡ 0
  unfolding opens_of
  none_open p t h = get_or-eq_default f.opens 0 (omega (arith, s.opens))

  object_place : (p t : ℕ) → most_objects ≤ t → most_opens ≤ mark_place p t
  object_place p t h = let e = no_object_place p t h in omega arith

  pub outside : Outside f
  unfolding put_process
  outside = record {
    putting = λ p r h. process_out f p r s.processes h;
    terminating = λ p h.
        ap (λ (x : Facility). put_opens x (close_process x.opens p)) (process_out f p no_process s.processes h)
        ∙ sym (opens_kept f _ (no_process_closed f.opens p s.opens h));
    cloning = λ p t h.
        ap (λ (x : Facility). put_opens x (copy_process x.opens p t)) (process_out f t (process_of f p) s.processes h)
        ∙ sym (opens_kept f _ (no_process_copied f.opens p t s.opens h));
    marking = λ p t v h. marks_out p t v (no_process_place p t h);
    closed = λ p t h. none_open p t (no_process_place p t h);
    deleting = λ t h. deleted_out f t s.objects.lives h;
    marking_object = λ p t v h. marks_out p t v (object_place p t h);
    closed_object = λ p t h. none_open p t (object_place p t h);
    counting = λ u h. counted_none f u s.refusals h;
  }

  same_marks : (p t v : ℕ) → p < most_processes → t < most_objects → opens_of (put_marks f p t v) p t ≡ v
  unfolding opens_of put_opens
  same_marks p t v hp ht =
      let e = mark_place_law p t ht in
      get_or-set_same f.opens (mark_place p t) v 0 (omega (arith, s.opens))

  other_marks : (p t v q u : ℕ) → (q ≡ p → u ≢ t) → opens_of (put_marks f p t v) q u ≡ opens_of f q u
  unfolding opens_of put_opens
  other_marks p t v q u n =
      by_eq (mark_place q u) (mark_place p t)
      (λ e. by_test (ltb u most_objects)
      (λ a. by_test (ltb t most_objects) (λ b. both (ltb-true u most_objects a) (ltb-true t most_objects b) e)
      (λ b. past (object_place p t (ltb-false t most_objects b))))
      (λ a. let h = object_place q u (ltb-false u most_objects a) in past (omega arith)))
      (λ e. get_or-set_other f.opens (mark_place p t) (mark_place q u) v 0 e)
    where
      past : most_opens ≤ mark_place p t → at (set f.opens (mark_place p t) v) (mark_place q u) ≡ at f.opens (mark_place q u)
      past h = ap (λ (l : List ℕ). at l (mark_place q u)) (set_out f.opens (mark_place p t) v (omega (arith, s.opens)))

      both : u < most_objects → t < most_objects → mark_place q u ≡ mark_place p t
          → at (set f.opens (mark_place p t) v) (mark_place q u) ≡ at f.opens (mark_place q u)
      both hu ht e =
          let w : place q u ≡ place p t = sym (mark_place_law q u hu) ∙ e ∙ mark_place_law p t ht in
          absurd (n (omega arith) (omega arith))

  pub one_pair : OnePair f
  one_pair = record { same = same_marks; other = other_marks }
