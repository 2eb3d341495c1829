-- The counters: proved.
use Rattle.std.specs.Prelude.{ℕ, zero, suc, ◌+◌, ◌≤◌, ◌<◌, min, ◌≡◌, refl, ◌≢◌, Bool, true, false, cond, List, [], ◌∷◌, eqb}
use Rattle.std.proofs.Common.{sym, ◌∙◌, ap, ap₂, arith, eqb-true, eq-eqb, ne_eqb}
use Rattle.rules.specs.Types.{Call, Facility}
use Rattle.labels.specs.Decisions.{◌and◌, at}
use Rattle.labels.proofs.Laws.Decisions.{by_test, by_eq}
use Rattle.answers.specs.Outcomes.{denies, number_of}
use Rattle.state.specs.State.{Users, most_users, most_refusals, refusals_of}
use Rattle.rules.specs.Calls.{owner_in, accepted, query, after_refusal, after}
use Rattle.rules.specs.Histories.{run, outcomes, Step, past, owner_after}
use Rattle.rules.specs.Requests.{action_of}
use Rattle.rules.specs.Setup.{fresh}
use Rattle.rules.specs.Promises.{denials_in, denials_of, sum_to, CountersCount}
use Rattle.rules.specs.Questions.{number}
use Rattle.state.specs.Shaped.{Shaped}
use Rattle.state.specs.Laws.ReadBack.{counted_own, counted_other, one_more_law}
use Rattle.rules.proofs.Fresh.{fresh_setup}
use Rattle.rules.proofs.Owners.{Owned, owned_after, denied_owner, unowned}
use Rattle.rules.proofs.Processes.{effect_untouched}
use Rattle.rules.proofs.Regular.{Regular, regular_after, regular_run}
use Rattle.rules.proofs.Refusals.{not_denied, query_number}

-- user u's counter after a call, by what it was before and whether the call is a denial of u's; o is the caller's owner where it is a denial
call_refusals : (f : Facility) (c : Call) (u d o : ℕ) → u < most_users → Shaped f → (denies (number f c) ≡ true → owner_in f c ≡ o)
    → refusals_of f u ≡ min d most_refusals
    → refusals_of (after f c) u ≡ min (cond (denies (number_of (query f c)) and eqb o u) 1 0 + d) most_refusals
unfolding after after_refusal accepted ◌and◌
call_refusals f c u d o b S w h =
    rw (query_number f c)
    (by_test (eqb (number f c) 0)
    (λ e.
    let n : number f c ≡ 0 = eqb-true _ _ e in
    let z = not_denied (number f c) (omega arith) in
    rw (e, z) (ap (λ (x : ℕ × Users × List ℕ). at x.2 u) (effect_untouched (action_of c.request) f c) ∙ omega arith))
    (λ e. by_test (denies (number f c))
    (λ k. rw (e, k, w k) (by_eq o u
    (λ q. rw (eq-eqb o u q, q) (counted_own f u S b ∙ one_more_law most_refusals (refusals_of f u) d h))
    (λ n. rw (ne_eqb o u n) (counted_other f o u (λ z. n (sym z)) ∙ omega arith))))
    (λ k. rw (e, k) (omega arith))))

-- a list of calls: what the counter was by the earlier steps, it is by the later ones
run_refusals : (cs : List Call) (f : Facility) (xs : List Step) (u : ℕ) → u < most_users → Regular f → Owned xs f
    → refusals_of f u ≡ min (denials_of u xs) most_refusals → refusals_of (run f cs) u ≡ min (denials_of u (past f cs xs)) most_refusals
unfolding run past denials_of
run_refusals [] f xs u b R O h = h
run_refusals (c ∷ cs) f xs u b R O h =
    run_refusals cs (after f c) (record { before = f; call = c } ∷ xs) u b (regular_after f c R) (owned_after f c xs R.sound O)
    (call_refusals f c u (denials_of u xs) _ b R.sound.shaped (λ d. (denied_owner f c xs O d).1) h)

each' : (s : List ℕ) (cs : List Call) (u : ℕ) → u < most_users
    → refusals_of (run (fresh s) cs) u ≡ min (denials_of u (past (fresh s) cs [])) most_refusals
unfolding denials_of
each' s cs u b = let F = fresh_setup s in run_refusals cs (fresh s) [] u b F.regular (unowned s) (F.refusals u)

-- sums: of the same figures, of sums, and of a figure that is 1 for o alone
sum_same : (n : ℕ) (g h : ℕ → ℕ) → ((u : ℕ) → u < n → g u ≡ h u) → sum_to n g ≡ sum_to n h
unfolding sum_to
sum_same zero g h e = refl
sum_same (suc n) g h e = rw (sum_same n g h (λ u b. e u (omega arith)), e n (omega arith))

sum_plus : (n : ℕ) (g h : ℕ → ℕ) → sum_to n (λ u. g u + h u) ≡ sum_to n g + sum_to n h
unfolding sum_to
sum_plus zero g h = refl
sum_plus (suc n) g h = let e = sum_plus n g h in omega arith

sum_zero : (n : ℕ) → sum_to n (λ u. 0) ≡ 0
unfolding sum_to
sum_zero zero = refl
sum_zero (suc n) = rw (sum_zero n)

sum_none : (n o : ℕ) → n ≤ o → sum_to n (λ u. cond (eqb o u) 1 0) ≡ 0
unfolding sum_to
sum_none zero o h = refl
sum_none (suc n) o h = let d : o ≢ n = omega arith in rw (ne_eqb o n d, sum_none n o (omega arith))

sum_one : (n o : ℕ) → o < n → sum_to n (λ u. cond (eqb o u) 1 0) ≡ 1
unfolding sum_to
sum_one zero o h = absurd (omega arith)
sum_one (suc n) o h =
    by_eq o n
    (λ e. rw (eq-eqb o n e, sum_none n o (omega arith)))
    (λ d. rw (ne_eqb o n d, sum_one n o (omega arith)))

-- a call counts for one of the sixteen where it is denied, and else for none
call_sum : (d : Bool) (o : ℕ) → (d ≡ true → o < most_users) → sum_to most_users (λ u. cond (d and eqb o u) 1 0) ≡ cond d 1 0
unfolding ◌and◌
call_sum true o h = sum_one most_users o (h refl)
call_sum false o h = sum_zero most_users

-- what the sixteen come to by the earlier steps, and then by all
past_sum : (cs : List Call) (f : Facility) (xs : List Step) (n : ℕ) → Regular f → Owned xs f → sum_to most_users (λ u. denials_of u xs) ≡ n
    → sum_to most_users (λ u. denials_of u (past f cs xs)) ≡ n + denials_in (outcomes f cs)
unfolding past outcomes denials_in denials_of
past_sum [] f xs n R O e = e ∙ omega arith
past_sum (c ∷ cs) f xs n R O e =
    let d = denies (number_of (query f c)) in
    let o = owner_after xs c.process in
    let low : d ≡ true → o < most_users = λ h. let w = denied_owner f c xs O (rw (query_number f c) at h) in omega (arith, w.0, w.1) in
    let m =
    sum_plus most_users (λ u. cond (d and eqb o u) 1 0) (λ u. denials_of u xs) ∙ ap₂ (λ (x y : ℕ). x + y) (call_sum d o low) e in
    past_sum cs (after f c) (record { before = f; call = c } ∷ xs) (cond d 1 0 + n) (regular_after f c R) (owned_after f c xs R.sound O) m
    ∙ omega arith

add_up : (s : List ℕ) (cs : List Call) → sum_to most_users (λ u. denials_of u (past (fresh s) cs [])) ≡ denials_in (outcomes (fresh s) cs)
unfolding denials_of
add_up s cs =
    past_sum cs (fresh s) [] 0 (fresh_setup s).regular (unowned s) (sum_zero most_users) ∙ omega arith

pub counters_count : CountersCount
counters_count =
    record {
      each = each';
      total = λ s cs below.
          sum_same most_users (refusals_of (run (fresh s) cs)) (λ u. denials_of u (past (fresh s) cs []))
          (λ u b. let e = each' s cs u b in let l = below u b in omega arith)
          ∙ add_up s cs;
      sixteen = λ s cs. (regular_run cs (fresh s) (fresh_setup s).regular).sound.shaped.refusals;
    }
