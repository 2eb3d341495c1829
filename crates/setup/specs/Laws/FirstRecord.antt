-- A reader may begin with any facility: only a switches record can be the first, 19 is not asked of it, and it enters all.
use Rattle.std.specs.Prelude.{ℕ, ◌*◌, ◌+◌, ◌<◌, ◌≤◌, cond, List, [], ◌≢◌, ◌≡◌, refl, drop}
use Rattle.std.proofs.Math.Bool.{true}
use Rattle.std.proofs.Common.{◌∙◌, ap, subst, arith, eq-eqb, eqb-true, ne_eqb}
use Rattle.std.proofs.Math.Path.{sym}
use Rattle.std.proofs.Math.Dec.{eqb}
use Rattle.answers.specs.Outcomes.{setup_accepted}
use Rattle.labels.specs.Decisions.{ask}
use Rattle.labels.proofs.Laws.Decisions.{ask_yes, by_eq, by_test}
use Rattle.rules.specs.declared.SetupRecord.{SetupRecord}
use Rattle.rules.specs.Kinds.{kind_of, object_record_kind, place_of, switches_record_kind, user_record_kind}
use Rattle.rules.specs.Setup.{enter_all, enter_record, first_record, records_of, refused_setup}
use Rattle.state.specs.declared.Facility.{Facility}
use Rattle.state.specs.State.{all_off, blank}
use Rattle.setup.specs.Laws.Entered.{switches_entered_law}
use Rattle.setup.specs.Laws.ReadingLoop.{At, past_of, begins, goes_on, stops, ends}
use Rattle.setup.specs.Laws.SameNumber.{Kept, none, number_by}
use Rattle.setup.specs.Progress.{Progress, fits_after, none_before, number_after, parent_fits_in, progress_after}

first_kind : (k : ℕ) → (kind_of k).place ≡ 1 → k ≡ switches_record_kind
unfolding kind_of
first_kind k e =
    by_eq k switches_record_kind (λ h. h)
    (λ a. by_eq k user_record_kind
    (λ h. let q : (kind_of k).place ≡ 2 = rw (ne_eqb k switches_record_kind a, eq-eqb k user_record_kind h) in absurd (omega arith))
    (λ b. by_eq k object_record_kind
    (λ h.
    let q : (kind_of k).place ≡ 3 = rw (ne_eqb k switches_record_kind a, ne_eqb k user_record_kind b, eq-eqb k object_record_kind h) in
    absurd (omega arith))
    (λ d.
    let q : (kind_of k).place ≡ 0 = rw (ne_eqb k switches_record_kind a, ne_eqb k user_record_kind b, ne_eqb k object_record_kind d) in
    absurd (omega arith))))

module _ (p : Progress) (f g : Facility) (r : SetupRecord) (z : p.kind ≡ 0) where
  first_number : number_by p f r ≡ number_by p g r
  unfolding number_after parent_fits_in ask
  first_number =
      by_test (eqb (place_of r) 1)
      (λ t. rw (first_kind r.kind (eqb-true _ 1 t)))
      (λ t. rw (eq-eqb p.kind 0 z, t))

  first_enters : number_by p f r ≡ 0 → enter_record f r ≡ enter_record g r
  unfolding number_after
  first_enters h =
      let t : fits_after p (place_of r) ≡ true = ask_yes _ _ _ h in
      let q : eqb (place_of r) 1 ≡ true = rw (eq-eqb p.kind 0 z) at t in
      let e = first_kind r.kind (eqb-true _ 1 q) in
      sym (switches_entered_law f r e) ∙ switches_entered_law g r e

-- What it has built counts after the first record.
abbrev built_at : ℕ → Facility → Facility
built_at k f = cond (eqb k 0) (blank all_off) f

abbrev pub From : List ℕ → ℕ → ℕ → Facility → Progress → Type 0
From s n k f p = At s n k (built_at k f) p

later : (k : ℕ) (f : Facility) → k ≢ 0 → built_at k f ≡ f
later k f d = rw (ne_eqb k 0 d)

none_kept : (p : Progress) → Kept p [] → p.kind ≡ 0
none_kept p (none a b) = a

first_kept : (s : List ℕ) (p : Progress) → Kept p (past_of s 0) → p.kind ≡ 0
unfolding past_of
first_kept s p K = none_kept p K

pub from_begins : (s : List ℕ) (n : ℕ) (f : Facility) (p : Progress) → p ≡ none_before → From s n 0 f p
from_begins s n f p e = begins s n (blank all_off) p refl e

module _ (s : List ℕ) (n k : ℕ) (f : Facility) (p : Progress) (r : SetupRecord) (h : k < n) (A : From s n k f p)
    (this : r ≡ first_record (drop (k * 8) s)) where
  kept_first : k ≡ 0 → p.kind ≡ 0
  kept_first e = first_kept s p (subst (λ (j : ℕ). Kept p (past_of s j)) e A.kept)

  same_number : number_by p f r ≡ number_by p (built_at k f) r
  same_number =
      by_eq k 0 (λ e. first_number p f (built_at k f) r (kept_first e))
      (λ d. ap (λ (x : Facility). number_by p x r) (sym (later k f d)))

  same_entered : number_by p f r ≡ 0 → enter_record (built_at k f) r ≡ enter_record f r
  same_entered z =
      by_eq k 0 (λ e. sym (first_enters p f (built_at k f) r (kept_first e) z)) (λ d. ap (λ (x : Facility). enter_record x r) (later k f d))

  pub from_goes_on : number_by p f r ≡ 0 → From s n (k + 1) (enter_record f r) (progress_after p r.kind)
  from_goes_on z =
      subst (λ (x : Facility). At s n (k + 1) x (progress_after p r.kind))
      (same_entered z ∙ sym (later (k + 1) (enter_record f r) (λ e. omega arith)))
      (goes_on s n k (built_at k f) p r h A this (sym same_number ∙ z))

  pub from_stops : number_by p f r ≢ 0 → refused_setup (number_by p f r) k ≡ enter_all [] (blank all_off) (records_of n s)
  from_stops z =
      ap (λ (m : ℕ). refused_setup m k) same_number ∙ stops s n k (built_at k f) p r h A this (λ e. z (same_number ∙ e))

pub from_ends : (s : List ℕ) (n k : ℕ) (f : Facility) (p : Progress) → 1 ≤ n → n ≤ k → From s n k f p
    → record { outcome = setup_accepted; facility = f } ≡ enter_all [] (blank all_off) (records_of n s)
from_ends s n k f p m h A =
    (λ i. record { outcome = setup_accepted; facility = sym (later k f (λ e. omega arith)) i }) ∙ ends s n k (built_at k f) p h A
