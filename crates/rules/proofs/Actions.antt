-- What a request acts on, told by its code: the one place that goes through all of them.
use Rattle.std.specs.Prelude.{ℕ, ◌≡◌, refl, true, cond, eqb}
use Rattle.std.proofs.Common.{sym, ◌∙◌, ap, eqb-true}
use Rattle.labels.proofs.Laws.Decisions.{by_test}
use Rattle.rules.specs.Requests.{Action, Login, Clone, SendSignal, SetLevel, Terminate, Create, OnObject, Unknown, action_of, action_code, on_object_code}
use Rattle.rules.specs.Requests.{login_request, clone_request, create_request, is_login, is_clone, is_create, is_on_object, needs_object}

-- the action of a code
abbrev action_named : ℕ → Action
action_named n = cond (eqb n on_object_code) OnObject (action_of n)

named : (k : Action) → action_named (action_code k) ≡ k
unfolding action_of
named Login = refl
named Clone = refl
named SendSignal = refl
named SetLevel = refl
named Terminate = refl
named Create = refl
named OnObject = refl
named Unknown = refl

by_code : (k : Action) (n : ℕ) → eqb (action_code k) n ≡ true → k ≡ action_named n
by_code k n h = sym (named k) ∙ ap action_named (eqb-true (action_code k) n h)

pub is_login_law : (k : Action) → is_login k ≡ true → k ≡ Login
unfolding action_of
is_login_law k h = by_code k login_request h

pub is_clone_law : (k : Action) → is_clone k ≡ true → k ≡ Clone
unfolding action_of
is_clone_law k h = by_code k clone_request h

pub is_create_law : (k : Action) → is_create k ≡ true → k ≡ Create
unfolding action_of
is_create_law k h = by_code k create_request h

is_on_object_law : (k : Action) → is_on_object k ≡ true → k ≡ OnObject
unfolding action_of
is_on_object_law k h = by_code k on_object_code h

-- what needs an object is a create in a directory, or a request on an object
pub needs {ℓ} : (k : Action) (e : ℕ) {A : Type ℓ} → needs_object k e ≡ true → (k ≡ Create → A) → (k ≡ OnObject → A) → A
needs k e h f g = by_test (is_create k) (λ c. f (is_create_law k c)) (λ c. g (is_on_object_law k (rw c at h)))
