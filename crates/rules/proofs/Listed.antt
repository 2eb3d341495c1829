-- The laws of `listed`: the items of the numbers below a limit that a test admits.
use Rattle.std.specs.Prelude.{ℕ, zero, suc, ◌≤◌, ◌<◌, ◌≡◌, refl, Bool, true, [], ◌∷◌, ◌++◌, length}
use Rattle.std.proofs.Common.{ap, length-append, arith}
use Rattle.labels.proofs.Laws.Decisions.{by_test}
use Rattle.rules.specs.Setup.{listed}
use Rattle.rules.proofs.Past.{All, all_append}

-- the same numbers with the same items
pub listed_same : {A : Type 0} (n : ℕ) (t u : ℕ → Bool) (i j : ℕ → A)
    → ((k : ℕ) → k < n → u k ≡ t k) → ((k : ℕ) → k < n → j k ≡ i k) → listed n u j ≡ listed n t i
unfolding listed
listed_same zero t u i j h g = refl
listed_same (suc n) t u i j h g =
    rw (listed_same n t u i j (λ k b. h k (omega arith)) (λ k b. g k (omega arith)), h n (omega arith), g n (omega arith))

-- the next number, admitted as well, is listed last
pub listed_next : {A : Type 0} (n : ℕ) (t u : ℕ → Bool) (i j : ℕ → A)
    → ((k : ℕ) → k < n → u k ≡ t k) → ((k : ℕ) → k < n → j k ≡ i k) → u n ≡ true → listed (suc n) u j ≡ listed n t i ++ (j n ∷ [])
unfolding listed
listed_next n t u i j h g e = rw e (ap (λ l. l ++ (j n ∷ [])) (listed_same n t u i j h g))

-- what holds of every item that is admitted; how many there are
pub listed_all : {A : Type 0} (P : A → Type 0) (n : ℕ) (t : ℕ → Bool) (i : ℕ → A) → ((k : ℕ) → k < n → t k ≡ true → P (i k)) → All P (listed n t i)
unfolding listed
listed_all P zero t i h = tt
listed_all P (suc n) t i h =
    all_append P (listed n t i) _ (listed_all P n t i (λ k b. h k (omega arith)))
    (by_test (t n) (λ e. rw e (h n (omega arith) e, tt)) (λ e. rw e tt))

pub listed_length : {A : Type 0} (n : ℕ) (t : ℕ → Bool) (i : ℕ → A) → length (listed n t i) ≤ n
unfolding listed
listed_length zero t i = omega arith
listed_length (suc n) t i =
    let e = listed_length n t i in
    by_test (t n) (λ h. rw h (simp length-append (omega arith))) (λ h. rw h (simp length-append (omega arith)))
