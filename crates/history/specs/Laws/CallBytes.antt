-- A list of calls, four bytes after four bytes.
use Rattle.std.specs.Prelude.{ℕ, ◌+◌, ◌*◌, ◌/◌, ◌%◌, ◌≤◌, suc, ◌<◌, ◌≡◌, refl, List, ◌∷◌, [], ◌++◌, true, length, drop, eqb}
use Rattle.std.proofs.Common.{sym, ◌∙◌, ap, length-drop, drop-cons, arith}
use Rattle.std.proofs.Math.ListN.{get_or-eq_default}
use Rattle.labels.specs.Decisions.{at}
use Rattle.history.specs.CallBytes.{call_from, call_bytes, all_bytes}
use Rattle.rules.specs.Lines.{calls_of}
use Rattle.state.specs.declared.Facility.{Facility}
use Rattle.rules.specs.Calls.{after, accepted, enforce, query}
use Rattle.rules.specs.Histories.{run, history}
use Rattle.state.specs.declared.Call.{Call}
use Rattle.matter.specs.declared.Ledger.{Ledger}
use Rattle.matter.specs.LedgerSteps.{step_of, start_of}
use Rattle.matter.specs.AfterCalls.{ledger_after, ledger_of}
use Rattle.rules.specs.declared.Reading.{Reading}
use Rattle.rules.specs.Setup.{read_setup}
use Rattle.answers.specs.declared.Outcome.{Outcome}
use Rattle.answers.specs.Outcomes.{number_of}
use Rattle.rules.specs.declared.Enforced.{Enforced}
use Rattle.questions.specs.Laws.Calls.{enforced_accepted}
use Rattle.labels.proofs.Laws.Decisions.{and_l, and_r, and_i}
use Rattle.rules.specs.Flow.{all_four_bytes}

-- past the end every byte of it is 0
pub call_past : (l : List ℕ) (i : ℕ) → length l ≤ i → record { request = 0; process = 0; target = 0; extra = 0 } ≡ call_from l i
call_past l i h =
    sym (λ k. record {
      request = past i (omega arith) k;
      process = past (i + 1) (omega arith) k;
      target = past (i + 2) (omega arith) k;
      extra = past (i + 3)
          (omega arith) k;
    })
  where
    past : (j : ℕ) → length l ≤ j → at l j ≡ 0
    past j b = get_or-eq_default l 0 {n = j} b

split_four : (l : List ℕ) (i : ℕ) → i + 4 ≤ length l → drop i l ≡ at l i ∷ at l (i + 1) ∷ at l (i + 2) ∷ at l (i + 3) ∷ drop (i + 4) l
split_four l i h =
    drop-cons l i 0 (omega arith)
    ∙ ap (λ (q : List ℕ). at l i ∷ q) (next i ∙ ap (λ (q : List ℕ). at l (i + 1) ∷ q) (step (i + 1) (i + 2) (omega arith) (omega arith)
    ∙ ap (λ (q : List ℕ). at l (i + 2) ∷ q)
    (step (i + 2) (i + 3) (omega arith) (omega arith) ∙ ap (λ (q : List ℕ). at l (i + 3) ∷ q) (last (i + 3) (i + 4) (omega arith)))))
  where
    last : (j k : ℕ) → k ≡ j + 1 → drop (suc j) l ≡ drop k l
    last j k e = let d : suc j ≡ k = omega arith in ap (λ (n : ℕ). drop n l) d

    step : (j k : ℕ) → k ≡ j + 1 → k < length l → drop (suc j) l ≡ at l k ∷ drop (suc k) l
    step j k e b = last j k e ∙ drop-cons l k 0 b

    next : (j : ℕ) → drop (suc i) l ≡ at l (i + 1) ∷ drop (suc (i + 1)) l
    next j = step i (i + 1) (omega arith) (omega arith)

pub calls_more : (l : List ℕ) (i : ℕ) → i + 4 ≤ length l → calls_of (drop i l) ≡ call_from l i ∷ calls_of (drop (i + 4) l)
unfolding calls_of
calls_more l i h = ap calls_of (split_four l i h)

few_calls_law : (l : List ℕ) → length l < 4 → calls_of l ≡ []
unfolding calls_of
few_calls_law [] h = refl
few_calls_law (a ∷ []) h = refl
few_calls_law (a ∷ b ∷ []) h = refl
few_calls_law (a ∷ b ∷ c ∷ []) h = refl
few_calls_law (a ∷ b ∷ c ∷ d ∷ l) h = absurd (omega arith)

-- a list of calls from byte i on: the first call, and none where fewer than four bytes are left
pub run_more : (f : Facility) (l : List ℕ) (i : ℕ) → i + 4 ≤ length l → run f (calls_of (drop i l)) ≡ run (after f (call_from l i)) (calls_of (drop (i + 4) l))
unfolding run
run_more f l i h = ap (run f) (calls_more l i h)

pub no_calls : (l : List ℕ) (i : ℕ) → length l < i + 4 → calls_of (drop i l) ≡ []
no_calls l i h =
    let b : length (drop i l) < 4 = simp length-drop (omega arith) in
    few_calls_law (drop i l) b

pub run_done : (f : Facility) (l : List ℕ) (i : ℕ) → length l < i + 4 → run f (calls_of (drop i l)) ≡ f
unfolding run
run_done f l i h = ap (run f) (no_calls l i h)

-- the account from byte i on, likewise
pub account_more : (f : Facility) (a : Ledger) (l : List ℕ) (i : ℕ) → i + 4 ≤ length l
    → ledger_after a (history f (calls_of (drop i l)))
    ≡ ledger_after (step_of a (call_from l i) (accepted f (call_from l i))) (history (after f (call_from l i)) (calls_of (drop (i + 4) l)))
unfolding ledger_after history
account_more f a l i h = ap (λ (cs : List Call). ledger_after a (history f cs)) (calls_more l i h)

-- what the code has at hand before the first call: what was read and the account of it
pub account_begins : (s : List ℕ) (cs : List Call) (r : Reading) (a : Ledger) → r ≡ read_setup s → a ≡ start_of r.facility.entered r.facility.kinds
    → ledger_of s cs ≡ ledger_after a (history r.facility cs)
account_begins s cs r a e q =
    sym (ap (λ (l : Ledger). ledger_after l (history r.facility cs)) q
    ∙ ap (λ (x : Reading). ledger_after (start_of x.facility.entered x.facility.kinds) (history x.facility cs)) e)

-- and after each call: the call, what it came to, its number and the account after it
pub account_goes_on : (f : Facility) (a b : Ledger) (l : List ℕ) (i : ℕ) (c : Call) (e : Enforced) (n : ℕ) → i + 4 ≤ length l
    → c ≡ call_from l i → e ≡ enforce f c → n ≡ number_of e.outcome → b ≡ step_of a c (eqb n 0)
    → ledger_after a (history f (calls_of (drop i l))) ≡ ledger_after b (history e.facility (calls_of (drop (i + 4) l)))
account_goes_on f a b l i c e n h q r s t =
    let x = r ∙ ap (enforce f) q in
    let y = t ∙ ap (step_of a c) (enforced_accepted f c e n r s) ∙ ap (λ (k : Call). step_of a k (accepted f k)) q in
    account_more f a l i h
    ∙ sym (ap (λ (g : Ledger). ledger_after g (history e.facility (calls_of (drop (i + 4) l)))) y
    ∙ ap (λ (g : Enforced). ledger_after (step_of a (call_from l i) (accepted f (call_from l i))) (history g.facility (calls_of (drop (i + 4) l)))) x)

-- the same by the number k of a call
pub next_run : (f : Facility) (l : List ℕ) (k : ℕ) → k < length l / 4
    → run f (calls_of (drop (4 * k) l)) ≡ run (after f (call_from l (4 * k))) (calls_of (drop (4 * (k + 1)) l))
next_run f l k h =
    let b : 4 * k + 4 ≤ length l = omega arith in
    let e : 4 * k + 4 ≡ 4 * (k + 1) = omega arith in
    run_more f l (4 * k) b ∙ ap (λ (i : ℕ). run (after f (call_from l (4 * k))) (calls_of (drop i l))) e

pub next_account : (f g : Facility) (a b : Ledger) (l : List ℕ) (k : ℕ) (c : Call) (o : Outcome) (n : ℕ) → k < length l / 4
    → c ≡ call_from l (4 * k) → o ≡ query f c → g ≡ after f c → n ≡ number_of o → b ≡ step_of a c (eqb n 0)
    → ledger_after a (history f (calls_of (drop (4 * k) l))) ≡ ledger_after b (history g (calls_of (drop (4 * (k + 1)) l)))
next_account f g a b l k c o n h q r w s t =
    let d : 4 * k + 4 ≤ length l = omega arith in
    let e : 4 * k + 4 ≡ 4 * (k + 1) = omega arith in
    account_goes_on f a b l (4 * k) c (record { facility = g; outcome = o }) n d q (λ i. record { facility = w i; outcome = r i }) s t
    ∙ ap (λ (i : ℕ). ledger_after b (history g (calls_of (drop i l)))) e

pub no_more_calls : (l : List ℕ) (k : ℕ) → length l / 4 ≤ k → length l < 4 * k + 4
no_more_calls l k h = omega arith

pub account_done : (f : Facility) (a : Ledger) (l : List ℕ) (i : ℕ) → length l < i + 4 → ledger_after a (history f (calls_of (drop i l))) ≡ a
unfolding ledger_after history
account_done f a l i h =
    ap (λ (cs : List Call). ledger_after a (history f cs)) (no_calls l i h)

pub calls_back : (cs : List Call) → calls_of (call_bytes cs) ≡ cs
unfolding calls_of call_bytes
calls_back [] = refl
calls_back (c ∷ cs) = ap (λ (l : List Call). c ∷ l) (calls_back cs)

pub four_bytes_law : (cs : List Call) → all_four_bytes cs ≡ true → all_bytes (call_bytes cs) ≡ true
unfolding all_four_bytes call_bytes all_bytes
four_bytes_law [] h = refl
four_bytes_law (c ∷ cs) h =
    let q = and_l _ _ h in
    and_i _ _ (and_l _ _ q) (and_i _ _ (and_l _ _ (and_r _ _ q)) (and_i _ _ (and_l _ _ (and_r _ _ (and_r _ _ q)))
    (and_i _ _ (and_r _ _ (and_r _ _ (and_r _ _ q))) (four_bytes_law cs (and_r _ _ h)))))

-- the calls of bytes behind whole calls
pub calls_joined : (a b : List ℕ) → length a % 4 ≡ 0 → calls_of (a ++ b) ≡ calls_of a ++ calls_of b
unfolding calls_of
calls_joined [] b h = refl
calls_joined (w ∷ []) b h = absurd (omega arith)
calls_joined (w ∷ x ∷ []) b h = absurd (omega arith)
calls_joined (w ∷ x ∷ y ∷ []) b h = absurd (omega arith)
calls_joined (w ∷ x ∷ y ∷ z ∷ a) b h =
    let k : length a % 4 ≡ 0 = omega arith in
    ap (λ (cs : List Call). record { request = w; process = x; target = y; extra = z } ∷ cs) (calls_joined a b k)
