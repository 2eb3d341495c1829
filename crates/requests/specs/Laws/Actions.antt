-- What a request acts on, by its number.
use Rattle.std.specs.Prelude.{ℕ, ◌≤◌, ◌<◌, ◌≢◌, ◌≡◌, refl, Bool, false, leb, eqb}
use Rattle.std.proofs.Common.{arith}
use Rattle.std.proofs.Math.Nat.{le_of_lt}
use borrow.Author.Tests.{le-leb, lt-leb, ne_eqb, eqb-true}
use Rattle.rules.specs.Requests.{last_request, action_of, is_login, is_clone, is_send_signal}
use Rattle.rules.specs.declared.Action.TheVariants.{OnObject, Unknown, Login, Clone, SendSignal, SetLevel, Terminate, Create}
use Rattle.rules.specs.declared.Action.{Action}
use Rattle.labels.proofs.Laws.Decisions.{by_test}

-- a number from 21 on that is not 21
past_last : (r : ℕ) → last_request ≤ r → r ≢ last_request → last_request < r
past_last r h n = omega arith

pub below_last : (r : ℕ) → r ≤ last_request → r ≢ last_request → r < last_request
below_last r h n = omega arith

module _ (r : ℕ) (n2 : r ≢ 2) (n4 : r ≢ 4) (n16 : r ≢ 16) (n17 : r ≢ 17) (n18 : r ≢ 18) (n21 : r ≢ 21) where
  pub acts_on_object : r < last_request → action_of r ≡ OnObject
  unfolding action_of
  acts_on_object h =
      let b : r ≤ last_request = le_of_lt h in
      rw (ne_eqb r 2 n2, ne_eqb r 4 n4, ne_eqb r 16 n16, ne_eqb r 17 n17, ne_eqb r 18 n18, ne_eqb r 21 n21, le-leb r last_request b)

  pub is_unknown : last_request ≤ r → action_of r ≡ Unknown
  unfolding action_of
  is_unknown h =
      let b = past_last r h n21 in
      rw (ne_eqb r 2 n2, ne_eqb r 4 n4, ne_eqb r 16 n16, ne_eqb r 17 n17, ne_eqb r 18 n18, ne_eqb r 21 n21, lt-leb r last_request b)

pub past_is_unknown : (r : ℕ) → last_request < r → action_of r ≡ Unknown
past_is_unknown r h = is_unknown r (omega arith) (omega arith) (omega arith) (omega arith) (omega arith) (omega arith) (omega arith)

-- A test of what a request acts on is a test of its number, where one number alone acts so.
by_number : (q : Action → Bool) (n : ℕ) → eqb 2 n ≡ q Clone → eqb 4 n ≡ q Create → eqb 16 n ≡ q SendSignal → eqb 17 n ≡ q SetLevel
    → eqb 18 n ≡ q Terminate → eqb 21 n ≡ q Login → false ≡ q OnObject → false ≡ q Unknown
    → ((r : ℕ) → eqb r 2 ≡ false → eqb r 16 ≡ false → eqb r 21 ≡ false → eqb r n ≡ false) → (r : ℕ) → eqb r n ≡ q (action_of r)
unfolding action_of
by_number q n h2 h4 h16 h17 h18 h21 ho hu out r =
    by_test (eqb r 2) (λ a. rw (a, eqb-true r 2 a) h2) (λ a.
    by_test (eqb r 4) (λ b. rw (a, b, eqb-true r 4 b) h4) (λ b.
    by_test (eqb r 16) (λ c. rw (a, b, c, eqb-true r 16 c) h16) (λ c.
    by_test (eqb r 17) (λ d. rw (a, b, c, d, eqb-true r 17 d) h17) (λ d.
    by_test (eqb r 18) (λ e. rw (a, b, c, d, e, eqb-true r 18 e) h18) (λ e.
    by_test (eqb r 21) (λ f. rw (a, b, c, d, e, f, eqb-true r 21 f) h21) (λ f.
    by_test (leb r last_request) (λ g. rw (a, b, c, d, e, f, g, out r a c f) ho) (λ g. rw (a, b, c, d, e, f, g, out r a c f) hu)))))))

pub login_is : (r : ℕ) → eqb r 21 ≡ is_login (action_of r)
login_is r = by_number is_login 21 refl refl refl refl refl refl refl refl (λ s a c f. f) r

pub clone_is : (r : ℕ) → eqb r 2 ≡ is_clone (action_of r)
clone_is r = by_number is_clone 2 refl refl refl refl refl refl refl refl (λ s a c f. a) r

pub send_signal_is : (r : ℕ) → eqb r 16 ≡ is_send_signal (action_of r)
send_signal_is r = by_number is_send_signal 16 refl refl refl refl refl refl refl refl (λ s a c f. c) r
