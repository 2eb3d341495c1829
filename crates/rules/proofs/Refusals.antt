-- Demand 1: proved.
use Rattle.answers.specs.declared.Outcome.TheVariants.{Refused}
use Rattle.std.specs.Prelude.{ℕ, ◌≤◌, ◌≡◌, ◌≢◌, true, false, eqb}
use Rattle.std.proofs.Common.{arith, eqb-true, ne_eqb}
use Rattle.rules.specs.Types.{Call, Facility}
use Rattle.labels.specs.Decisions.{◌or◌}
use Rattle.labels.proofs.Laws.Decisions.{or_cases, by_test}
use Rattle.answers.specs.Outcomes.{denies, outcome_of, number_of}
use Rattle.answers.proofs.Laws.Outcomes.{outcome_number}
use Rattle.state.specs.State.{put_refusals, counted}
use Rattle.rules.specs.Calls.{owner_in, accepted, query, after_refusal, after}
use Rattle.rules.specs.Promises.{Refusals}
use Rattle.rules.specs.Questions.{number}

-- 1 to 11 are neither 0 nor 12 nor 13
pub not_denied : (n : ℕ) → n ≤ 11 → denies n ≡ false
unfolding denies ◌or◌
not_denied n h =
    let a : n ≢ 12 = omega arith in
    let b : n ≢ 13 = omega arith in
    rw (ne_eqb n 12 a, ne_eqb n 13 b)

denied_not_zero : (n : ℕ) → denies n ≡ true → eqb n 0 ≡ false
unfolding denies
denied_not_zero n h =
    or_cases _ _ h
    (λ e. ne_eqb n 0 (omega (arith, eqb-true n 12 e)))
    (λ e. ne_eqb n 0 (omega (arith, eqb-true n 13 e)))

refusal_kept : (f : Facility) (u n : ℕ) → after_refusal f u n ≡ put_refusals f (after_refusal f u n).refusals
unfolding after_refusal counted put_refusals
refusal_kept f u n = by_test (denies n) (λ h. rw h) (λ h. rw h)

unchanged' : (f : Facility) (c : Call) → accepted f c ≡ false → after f c ≡ put_refusals f (after f c).refusals
unfolding after
unchanged' f c h = rw h (refusal_kept f (owner_in f c) (number f c))

uncounted' : (f : Facility) (c : Call) → accepted f c ≡ false → denies (number f c) ≡ false → after f c ≡ f
unfolding after after_refusal
uncounted' f c h k = rw (h, k)

unasked' : (f : Facility) (c : Call) → accepted f c ≡ false → denies (number f c) ≡ false → query f c ≡ Refused (number f c)
unfolding query outcome_of accepted
unasked' f c h k = rw (h, k)

counts' : (f : Facility) (c : Call) → denies (number f c) ≡ true → after f c ≡ counted f (owner_in f c)
unfolding after accepted after_refusal
counts' f c h = rw (denied_not_zero (number f c) h, h)

pub query_number : (f : Facility) (c : Call) → number_of (query f c) ≡ number f c
unfolding query
query_number f c = outcome_number (number f c) _ _

pub refusals : Refusals
refusals =
    record {
      unchanged = unchanged';
      uncounted = uncounted';
      unasked = unasked';
      counts = counts';
      numbered = query_number;
    }
