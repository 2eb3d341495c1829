-- New numbers of live objects, and parents by their new numbers.
use Rattle.std.specs.Prelude.{ℕ, zero, suc, ◌+◌, ◌-◌, ◌≤◌, ◌<◌, ◌≡◌, refl, ◌≢◌, true, false, ltb, length}
use Rattle.std.proofs.Common.{sym, ◌∙◌, length-append, arith, lt-ltb}
use Rattle.labels.specs.Decisions.{◌and◌, at, on}
use Rattle.labels.proofs.Laws.Decisions.{by_test, by_eq}
use Rattle.state.specs.State.{Objects, object_in}
use Rattle.rules.specs.Setup.{listed, new_number, new_parent}

-- whether object t lives
abbrev pub lives : Objects → ℕ → Type 0
lives x t = on (at x.lives t) ≡ true

-- new numbers rise, and a live object's is below those of later ones
new_step : (x : Objects) (n : ℕ) → new_number x n ≤ new_number x (suc n)
unfolding new_number
new_step x n = by_test (on (at x.lives n)) (λ e. rw e (omega arith)) (λ e. rw e (omega arith))

pub new_more : (x : Objects) (t : ℕ) → lives x t → new_number x (suc t) ≡ new_number x t + 1
unfolding new_number
new_more x t v = rw v

pub new_gone : (x : Objects) (t : ℕ) → on (at x.lives t) ≡ false → new_number x (suc t) ≡ new_number x t
unfolding new_number
new_gone x t v = rw v

new_grows : (x : Objects) (t d : ℕ) → new_number x t ≤ new_number x (t + d)
new_grows x t zero = let e : t + 0 ≡ t = omega arith in rw e (omega arith)
new_grows x t (suc d) =
    let e : t + suc d ≡ suc (t + d) = omega arith in
    let h = new_grows x t d in
    let g = new_step x (t + d) in
    rw e (omega arith)

pub new_below : (x : Objects) (t n : ℕ) → t < n → lives x t → new_number x t < new_number x n
new_below x t n h v =
    let e : suc t + (n - suc t) ≡ n = omega arith in
    let g : new_number x (suc t) ≤ new_number x n = rw e at (new_grows x (suc t) (n - suc t)) in
    let m = new_more x t v in
    omega arith

pub new_most : (x : Objects) (n : ℕ) → new_number x n ≤ n
unfolding new_number
new_most x zero = omega arith
new_most x (suc n) = let h = new_most x n in by_test (on (at x.lives n)) (λ e. rw e (omega arith)) (λ e. rw e (omega arith))

-- they are told by the lives before, and where all live nothing moves
new_same : (x y : Objects) (n : ℕ) → ((t : ℕ) → t < n → at y.lives t ≡ at x.lives t) → new_number y n ≡ new_number x n
unfolding new_number
new_same x y zero h = refl
new_same x y (suc n) h = rw (new_same x y n (λ t b. h t (omega arith)), h n (omega arith))

pub new_all : (x : Objects) (n : ℕ) → ((t : ℕ) → t < n → lives x t) → new_number x n ≡ n
unfolding new_number
new_all x zero h = refl
new_all x (suc n) h = rw (new_all x n (λ t b. h t (omega arith)), h n (omega arith)) (omega arith)

-- as many are listed
pub listed_number : {A : Type 0} (x : Objects) (n : ℕ) (item : ℕ → A) → length (listed n (λ t. on (object_in x t).live) item) ≡ new_number x n
unfolding listed new_number object_in
listed_number x zero item = refl
listed_number x (suc n) item =
    let h = listed_number x n item in
    by_test (on (at x.lives n)) (λ e. rw e (simp length-append (omega arith))) (λ e. rw e (simp length-append (omega arith)))

-- A parent by its new number: none for none, told by the lives before a limit, itself where all live.
pub parent_none : (x : Objects) → new_parent x 0 ≡ 0
unfolding new_parent ◌and◌
parent_none x = refl

pub parent_live : (x : Objects) (n : ℕ) → n ≢ 0 → lives x (n - 1) → new_parent x n ≡ new_number x (n - 1) + 1
unfolding new_parent ◌and◌
parent_live x n z v = let p : 0 < n = omega arith in rw (lt-ltb 0 n p, v)

parent_told : (x y : Objects) (n : ℕ) → at y.lives (n - 1) ≡ at x.lives (n - 1) → new_number y (n - 1) ≡ new_number x (n - 1)
    → new_parent y n ≡ new_parent x n
unfolding new_parent
parent_told x y n e d = rw (e, d)

pub parent_same : (x y : Objects) (n b : ℕ) → (n ≢ 0 → n - 1 < b) → ((t : ℕ) → t < b → at y.lives t ≡ at x.lives t)
    → new_parent y n ≡ new_parent x n
parent_same x y n b k h =
    by_eq n 0
    (λ e. rw e (parent_none y ∙ sym (parent_none x)))
    (λ z. let l = k z in parent_told x y n (h _ l) (new_same x y (n - 1) (λ t c. h t (omega arith))))

pub parent_all : (x : Objects) (n b : ℕ) → (n ≢ 0 → n - 1 < b) → ((t : ℕ) → t < b → lives x t) → new_parent x n ≡ n
parent_all x n b k h =
    by_eq n 0
    (λ e. rw e (parent_none x))
    (λ z. let l = k z in let e = new_all x (n - 1) (λ t c. h t (omega arith)) in parent_live x n z (h _ l) ∙ omega arith)

-- a deleted parent counts as none
pub parent_dead : (x : Objects) (n : ℕ) → on (at x.lives (n - 1)) ≡ false → new_parent x n ≡ 0
unfolding new_parent ◌and◌
parent_dead x n v = by_test (ltb 0 n) (λ p. rw (p, v)) (λ p. rw p)

pub parent_most : (x : Objects) (n b : ℕ) → (n ≢ 0 → n - 1 < b) → new_parent x n ≤ b
parent_most x n b k =
    by_eq n 0
    (λ e. let z = parent_none x in rw e (omega arith))
    (λ z. let l = k z in let m = new_most x (n - 1) in
    by_test (on (at x.lives (n - 1))) (λ v. let e = parent_live x n z v in omega arith) (λ v. let e = parent_dead x n v in omega arith))
