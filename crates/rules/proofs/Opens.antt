-- The invariant under the ways in which opens change.
use Rattle.std.specs.Prelude.{ℕ, ◌/◌, ◌%◌, ◌≤◌, ◌<◌, ◌≡◌, refl, ◌≢◌, true, false, List, ltb, eqb, length}
use Rattle.std.proofs.Common.{sym, ◌∙◌, ap, length-set, arith, ltb-true, ltb-false, eqb-true}
use Rattle.std.proofs.Math.Path.{subst⁻¹}
use Rattle.std.proofs.Math.ListN.{get_or-eq_default}
use Rattle.rules.specs.Types.{Process, Facility}
use Rattle.labels.specs.Decisions.{at, on}
use Rattle.labels.proofs.Laws.Decisions.{or_cases, clash, by_test, by_eq}
use Rattle.state.specs.Outside.{OnePair}
use Rattle.state.specs.Laws.Outside.{one_pair}
use Rattle.opens.specs.Laws.Opens.{length_build, at_build, place_below, place_object, place_process, reading_add, writing_add}
use Rattle.state.specs.Laws.ReadBack.{opens_at, opens_put}
use Rattle.opens.specs.Opens.{most_processes, most_objects, most_opens, place, reading, writing, add_modes, build, close_object, close_process, copy_process}
use Rattle.state.specs.State.{process_of, runs, label_of, opens_of, put_opens, put_marks}
use Rattle.rules.specs.Matter.{Account}
use Rattle.rules.proofs.Invariant.{Knows, Reaches, Inv, inv_opens}

-- what an open mark of process p on object t stands for
abbrev pub MayRead : Facility → ℕ → ℕ → Type 0
MayRead f p t = (runs f p ≡ true) × Knows f.entered (label_of f t) t (process_of f p)

abbrev pub MayWrite : Facility → ℕ → ℕ → Type 0
MayWrite f p t = (runs f p ≡ true) × Reaches f.entered (label_of f t) t (process_of f p)

-- no mark stands outside the array
outside : (l : List ℕ) (p t : ℕ) → length l ≡ most_opens → ltb p most_processes ≡ false → at l (place p t) ≡ 0
outside l p t e h =
    let b : most_processes ≤ p = ltb-false p most_processes h in
    get_or-eq_default l 0 (omega arith)

pub not_reading : {v : ℕ} {A : Type 0} → v ≡ 0 → reading v ≡ true → A
unfolding reading
not_reading e h = clash (rw e at h) refl

pub not_writing : {v : ℕ} {A : Type 0} → v ≡ 0 → writing v ≡ true → A
unfolding writing
not_writing e h = clash (rw e at h) refl

-- the opens of one pair are set
pub inv_mark : (f : Facility) (a : Account) (p t v : ℕ) → Inv f a → p < most_processes → t < most_objects
    → (reading v ≡ true → MayRead f p t) → (writing v ≡ true → MayWrite f p t)
    → Inv (put_marks f p t v) a
inv_mark f a p t v I hp ht R W =
    inv_opens f a _ I (simp length-set I.sound.shaped.opens)
    (λ q u hu m. split q u
    (λ e d. rw (e, d) (R (rw (e, d, pair.same p t v hp ht) at m)))
    (λ n. (I.process q).readable u hu (rw (pair.other p t v q u n) at m)))
    (λ q u hu m. split q u
    (λ e d. rw (e, d) (W (rw (e, d, pair.same p t v hp ht) at m)))
    (λ n. (I.process q).writable u hu (rw (pair.other p t v q u n) at m)))
  where
    pair : OnePair f
    pair = one_pair f I.sound.shaped

    split : (q u : ℕ) → {A : Type 0} → (q ≡ p → u ≡ t → A) → ((q ≡ p → u ≢ t) → A) → A
    split q u same' other' = by_eq q p (λ e. by_eq u t (λ d. same' e d) (λ d. other' (λ _. d))) (λ e. other' (λ d. absurd (e d)))

-- all opens are given by a rule
pub inv_rule : (f : Facility) (a : Account) (g : ℕ → ℕ) → Inv f a
    → ((p t : ℕ) → p < most_processes → t < most_objects → reading (g (place p t)) ≡ true → MayRead f p t)
    → ((p t : ℕ) → p < most_processes → t < most_objects → writing (g (place p t)) ≡ true → MayWrite f p t)
    → Inv (put_opens f (build (length f.opens) g)) a
inv_rule f a g I R W =
    rw I.sound.shaped.opens
    (inv_opens f a _ I (length_build most_opens g)
    (λ p t h m. by_test (ltb p most_processes)
    (λ e. let b = ltb-true p most_processes e in R p t b h (rw (
      opens_put f (build most_opens g) p t h,
      at_build most_opens g (place p t)
          (place_below p t b h),
    ) at m))
    (λ e. not_reading (outside (build most_opens g) p t (length_build most_opens g) e) (rw (opens_put f (build most_opens g) p t h) at m)))
    (λ p t h m. by_test (ltb p most_processes)
    (λ e. let b = ltb-true p most_processes e in W p t b h (rw (
      opens_put f (build most_opens g) p t h,
      at_build most_opens g (place p t)
          (place_below p t b h),
    ) at m))
    (λ e. not_writing (outside (build most_opens g) p t (length_build most_opens g) e) (rw (opens_put f (build most_opens g) p t h) at m))))

-- marks are added
pub inv_add : (f : Facility) (a : Account) (p t m : ℕ) → Inv f a → p < most_processes → t < most_objects
    → (reading m ≡ true → MayRead f p t) → (writing m ≡ true → MayWrite f p t)
    → Inv (put_marks f p t (add_modes (opens_of f p t) m)) a
inv_add f a p t m I hp ht R W =
    inv_mark f a p t _ I hp ht
    (λ h. or_cases _ _ (rw reading_add at h) (λ e. (I.process p).readable t ht e) R)
    (λ h. or_cases _ _ (rw writing_add at h) (λ e. (I.process p).writable t ht e) W)

pub inv_close : (f : Facility) (a : Account) (p t : ℕ) → Inv f a → p < most_processes → t < most_objects → Inv (put_marks f p t 0) a
inv_close f a p t I hp ht = inv_mark f a p t 0 I hp ht (not_reading refl) (not_writing refl)

pub inv_close_object : (f : Facility) (a : Account) (t : ℕ) → Inv f a → Inv (put_opens f (close_object f.opens t)) a
unfolding close_object
inv_close_object f a t I =
    inv_rule f a _ I
    (λ q u hq hu m. by_test (eqb (place q u % most_objects) t) (λ e. not_reading {v = 0} refl (rw e at m))
    (λ e. (I.process q).readable u hu (rw (opens_at f q u hu) (rw e at m))))
    (λ q u hq hu m. by_test (eqb (place q u % most_objects) t) (λ e. not_writing {v = 0} refl (rw e at m))
    (λ e. (I.process q).writable u hu (rw (opens_at f q u hu) (rw e at m))))

pub inv_close_process : (f : Facility) (a : Account) (p : ℕ) → Inv f a → Inv (put_opens f (close_process f.opens p)) a
unfolding close_process
inv_close_process f a p I =
    inv_rule f a _ I
    (λ q u hq hu m. by_test (eqb (place q u / most_objects) p) (λ e. not_reading {v = 0} refl (rw e at m))
    (λ e. (I.process q).readable u hu (rw (opens_at f q u hu) (rw e at m))))
    (λ q u hq hu m. by_test (eqb (place q u / most_objects) p) (λ e. not_writing {v = 0} refl (rw e at m))
    (λ e. (I.process q).writable u hu (rw (opens_at f q u hu) (rw e at m))))

-- process t gets a copy of p's opens: t's marks are p's
pub inv_copy : (f : Facility) (a : Account) (p t : ℕ) → Inv f a → process_of f t ≡ process_of f p → Inv (put_opens f (copy_process f.opens p t)) a
unfolding copy_process
inv_copy f a p t I e =
    inv_rule f a _ I
    (λ q u hq hu m. by_test (eqb (place q u / most_objects) t)
    (λ h. subst⁻¹ (λ (x : Process). (on x.running ≡ true) × Knows f.entered (label_of f u) u x) (like q u hu h)
    ((I.process p).readable u hu (rw (opens_at f p u hu) (rw (h, place_object q u hu) at m))))
    (λ h. (I.process q).readable u hu (rw (opens_at f q u hu) (rw h at m))))
    (λ q u hq hu m. by_test (eqb (place q u / most_objects) t)
    (λ h. subst⁻¹ (λ (x : Process). (on x.running ≡ true) × Reaches f.entered (label_of f u) u x) (like q u hu h)
    ((I.process p).writable u hu (rw (opens_at f p u hu) (rw (h, place_object q u hu) at m))))
    (λ h. (I.process q).writable u hu (rw (opens_at f q u hu) (rw h at m))))
  where
    like : (q u : ℕ) → u < most_objects → eqb (place q u / most_objects) t ≡ true → process_of f q ≡ process_of f p
    like q u hu h = ap (process_of f) (sym (place_process q u hu) ∙ eqb-true _ _ h) ∙ e
