-- Calls made one by one where the facility is: by the list, what each contract says is what the definitions say of the whole.
use Prim.Native.Nat.{ℕ}
use mathlib.Core.Path.{◌≡◌, refl, sym, ◌∙◌, ap, subst⁻¹}
use mathlib.Core.Bool.{true, false}
use mathlib.Core.List.{List, [], ◌∷◌}
use lib.Dec.{eqb}
use Rattle.labels.specs.Decisions.{on}
use Rattle.answers.specs.declared.Outcome.{Outcome}
use Rattle.answers.specs.Outcomes.{number_of, denies}
use Rattle.state.specs.declared.Call.{Call}
use Rattle.state.specs.declared.Facility.{Facility}
use Rattle.state.specs.State.{label_of, process_of, counted}
use Rattle.rules.specs.Calls.{accepted, query, after}
use Rattle.rules.specs.Flow.{Above}
use Rattle.rules.specs.Histories.{run, outcomes, history}
use Rattle.rules.specs.Questions.{number}
use Rattle.rules.specs.Matter.{holds}
use Rattle.rules.specs.Setup.{fresh}
use Rattle.rules.proofs.OnlyWhen.{only_when_after}
use Rattle.rules.proofs.Refusals.{refusals}
use Rattle.rules.proofs.Signals.{signals}
use Rattle.matter.specs.declared.Ledger.{Ledger}
use Rattle.matter.specs.LedgerSteps.{start_of, step_of, held_by, account_of}
use Rattle.matter.specs.AfterCalls.{ledger_after, ledger_of}
use Rattle.matter.specs.Laws.AfterCalls.{account_kept, held_exactly}
use Rattle.history.specs.Promised.{Promised}
use Rattle.history.specs.Laws.Promised.{promised}
use Rattle.in_place.specs.Layout.{facility_at}
use Rattle.in_place.specs.Stores.{Becomes}
use Rattle.calls_in_place.specs.InPlace.{Kept, Begun, CallMade, CallsMade, done, next, InPlace}

-- what a call came to tells whether it was accepted
made_accepted : (f : Facility) (c : Call) (o : Outcome) → o ≡ query f c → eqb (number_of o) 0 ≡ accepted f c
unfolding accepted
made_accepted f c o e = ap (λ (x : Outcome). eqb (number_of x) 0) e ∙ ap (λ (n : ℕ). eqb n 0) (refusals.numbered f c)

made_number : (f : Facility) (c : Call) (o : Outcome) → o ≡ query f c → number_of o ≡ number f c
made_number f c o e = ap (λ (x : Outcome). number_of x) e ∙ refusals.numbered f c

-- the list from bytes that are the facility f
pub record Listed (x z : Kept) (f : Facility) (cs : List Call) (os : List Outcome) : Type 0 where
  pub bytes : Becomes x.bytes z.bytes (run f cs)
  pub told : os ≡ outcomes f cs
  pub account : z.account ≡ ledger_after x.account (history f cs)

listed : (x z : Kept) (cs : List Call) (os : List Outcome) → CallsMade x cs os z → (f : Facility) → facility_at x.bytes ≡ f → Listed x z f cs os
unfolding run outcomes history ledger_after
listed x z [] [] (done y) f e = record { bytes = (e, refl); told = refl; account = refl }
listed x z (c ∷ cs) (o ∷ os) (next w y v d p ds ps M N) f e =
    let q : o ≡ query f c = M.outcome ∙ ap (λ (g : Facility). query g c) e in
    let L = listed y z cs os N (after f c) (M.bytes.0 ∙ ap (λ (g : Facility). after g c) e) in
    record {
      bytes = (L.bytes.0, L.bytes.1 ∙ M.bytes.1);
      told = λ i. q i ∷ L.told i;
      account = L.account
          ∙ ap (λ (l : Ledger). ledger_after l (history (after f c) cs)) (M.account ∙ ap (step_of x.account c) (made_accepted f c o q));
    }
listed x z [] (o ∷ os) x6 f e = elim x6 [ ]
listed x z (c ∷ cs) [] x6 f e = elim x6 [ ]

-- one call more, refused
counts' : (x : Kept) (c : Call) (o : Outcome) (y : Kept) → CallMade x c o y → denies (number_of o) ≡ true
    → facility_at y.bytes ≡ counted (facility_at x.bytes) (process_of (facility_at x.bytes) c.process).owner
counts' x c o y M d =
    let f = facility_at x.bytes in
    M.bytes.0 ∙ refusals.counts f c (ap (λ (n : ℕ). denies n) (sym (made_number f c o M.outcome)) ∙ d)

unchanged' : (x : Kept) (c : Call) (o : Outcome) (y : Kept) → CallMade x c o y → eqb (number_of o) 0 ≡ false → denies (number_of o) ≡ false
    → facility_at y.bytes ≡ facility_at x.bytes
unchanged' x c o y M a d =
    let f = facility_at x.bytes in
    M.bytes.0
    ∙ refusals.uncounted f c (sym (made_accepted f c o M.outcome) ∙ a) (ap (λ (n : ℕ). denies n) (sym (made_number f c o M.outcome)) ∙ d)

-- the account is started of what the set-up gives
started : (s b : List ℕ) (x : Kept) → Begun s b x → x.account ≡ start_of (fresh s).entered (fresh s).kinds
started s b x B = B.account ∙ ap (λ (f : Facility). start_of f.entered f.kinds) B.bytes.0

pub in_place : InPlace
in_place s b x cs os z B M =
    let L = listed x z cs os M (fresh s) B.bytes.0 in
    let e = L.bytes.0 in
    let k : z.account ≡ ledger_of s cs = L.account ∙ ap (λ (l : Ledger). ledger_after l (history (fresh s) cs)) (started s b x B) in
    let h : (t c : ℕ) → held_by z.account.objects t c ≡ holds s cs t c = λ t c.
    ap (λ (l : Ledger). held_by l.objects t c) k ∙ held_exactly s cs t c in
    record {
      bytes = (e, L.bytes.1 ∙ B.bytes.1);
      told = L.told;
      promised = subst⁻¹ (λ (f : Facility). Promised s cs f) e (promised s cs);
      account = ap account_of k ∙ account_kept s cs;
      holding = h;
      only_when = λ m u t c g n.
          subst⁻¹ (λ (f : Facility). Above (label_of f t) (label_of f c)) e
          (only_when_after s cs (ap (λ (f : Facility). on f.mac) (sym e) ∙ m) u c t (sym (h t c) ∙ g) n);
      counts = λ c o y N d. counts' z c o y N d;
      unchanged = λ c o y N a d. unchanged' z c o y N a d;
      raises = λ c o y N A m t. N.bytes.0 ∙ signals.raises (facility_at z.bytes) c A m t;
      off = λ c o y N A m. N.bytes.0 ∙ signals.off (facility_at z.bytes) c A m;
      trusted = λ c o y N A t. N.bytes.0 ∙ signals.trusted (facility_at z.bytes) c A t;
    }
