-- An outcome has the number that it was made of.
use Rattle.std.specs.Prelude.{ℕ, ◌≡◌, eqb}
use Rattle.std.proofs.Common.{eqb-true}
use Rattle.answers.specs.declared.Answers.{Answers}
use Rattle.labels.proofs.Laws.Decisions.{by_test}
use Rattle.answers.specs.Outcomes.{denies, outcome_of, number_of}

-- the outcome has the number that it was made of
pub outcome_number : (n : ℕ) (a : Answers) (o : ℕ) → number_of (outcome_of n a o) ≡ n
unfolding outcome_of
outcome_number n a o =
    by_test (eqb n 0) (λ h. rw h (rw (eqb-true n 0 h)))
    (λ h. rw h (by_test (denies n) (λ k. rw k) (λ k. rw k)))
