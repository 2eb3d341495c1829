-- What no way of changing a facility touches, no call touches: one law for every part of a facility that calls leave alone.
use Rattle.std.specs.Prelude.{ℕ, ◌≡◌, ltb}
use Rattle.std.proofs.Math.Path.{refl}
use Rattle.std.proofs.Common.{◌∙◌}
use mathlib.Core.List.{List, [], ◌∷◌}
use Rattle.labels.proofs.Laws.Decisions.{by_test}
use Rattle.answers.specs.Outcomes.{denies}
use Rattle.opens.specs.Opens.{most_objects}
use Rattle.state.specs.State.{switches_of, put_process, put_opens, put_object, add_object, drop_object, put_refusals, counted, open_by}
use Rattle.rules.specs.Types.{Call, Process, Object, Facility}
use Rattle.rules.specs.Requests.{Action, Login, Clone, SendSignal, SetLevel, Terminate, Create, OnObject, Unknown, OpenChange, Keep, Add, Close}
use Rattle.rules.specs.Requests.{CloseAll, action_of, in_directory, open_change}
use Rattle.rules.specs.Questions.{number}
use Rattle.rules.specs.Effects.{effect_from, effect_by}
use Rattle.rules.specs.Calls.{accepted, after_refusal, after}
use Rattle.rules.specs.Histories.{run}
use Rattle.rules.specs.Setup.{fresh, users_of}
use Rattle.rules.specs.Promises.{UsersStay}

-- the ways of changing a facility leave what g reads off it
pub record Leaves {A : Type 0} (g : Facility → A) : Type 0 where
  pub process : (f : Facility) (p : ℕ) (r : Process) → g (put_process f p r) ≡ g f
  pub opens : (f : Facility) (l : List ℕ) → g (put_opens f l) ≡ g f
  pub object : (f : Facility) (o : Object) → g (put_object f o) ≡ g f
  pub dropped : (f : Facility) (t : ℕ) → g (drop_object f t) ≡ g f

module _ {A : Type 0} (g : Facility → A) (L : Leaves g) where
  add_leaves : (f : Facility) (o : Object) → g (add_object f o) ≡ g f
  unfolding add_object
  add_leaves f o = by_test (ltb f.entered most_objects) (λ e. rw e (L.object f o)) (λ e. rw e)

  open_leaves : (o : OpenChange) (f : Facility) (p t : ℕ) → g (open_by o f p t) ≡ g f
  unfolding open_by
  open_leaves Keep f p t = refl
  open_leaves (Add m) f p t = L.opens f _
  open_leaves Close f p t = L.opens f _
  open_leaves CloseAll f p t = L.dropped _ t ∙ L.opens f _

  -- no accepted call changes it
  pub effect_leaves : (k : Action) (f : Facility) (c : Call) → g (effect_by k f c) ≡ g f
  unfolding effect_from
  effect_leaves Login f c = L.process f _ _
  effect_leaves Clone f c = L.opens _ _ ∙ L.process f _ _
  effect_leaves SendSignal f c = L.process f _ _
  effect_leaves SetLevel f c = L.process f _ _
  effect_leaves Terminate f c = L.opens _ _ ∙ L.process f _ _
  effect_leaves Create f c =
      by_test (in_directory c.extra) (λ e. rw e (add_leaves _ _ ∙ L.process f _ _)) (λ e. rw e (add_leaves f _))
  effect_leaves OnObject f c = open_leaves (open_change c.request) _ _ _ ∙ L.process f _ _
  effect_leaves Unknown f c = refl

  -- and no call, and no list of calls, changes it where counting a refusal does not
  module _ (counting : (f : Facility) (l : List ℕ) → g (put_refusals f l) ≡ g f) where
    pub after_leaves : (f : Facility) (c : Call) → g (after f c) ≡ g f
    unfolding after after_refusal counted
    after_leaves f c =
        by_test (accepted f c)
        (λ h. rw h (effect_leaves (action_of c.request) f c))
        (λ h. rw h (by_test (denies (number f c)) (λ d. rw d (counting f _)) (λ d. rw d)))

    pub run_leaves : (cs : List Call) (f : Facility) → g (run f cs) ≡ g f
    unfolding run
    run_leaves [] f = refl
    run_leaves (c ∷ cs) f = run_leaves cs (after f c) ∙ after_leaves f c

-- a part that none of these changes touches
pub run_switches : (cs : List Call) (f : Facility) → switches_of (run f cs) ≡ switches_of f
unfolding put_process put_opens put_object drop_object put_refusals
run_switches cs f =
    run_leaves switches_of (record { process = λ g p r. refl; opens = λ g l. refl; object = λ g o. refl; dropped = λ g t. refl }) (λ g l. refl) cs f

run_users : (cs : List Call) (f : Facility) → users_of (run f cs) ≡ users_of f
unfolding put_process put_opens put_object drop_object put_refusals
run_users cs f =
    run_leaves users_of (record { process = λ g p r. refl; opens = λ g l. refl; object = λ g o. refl; dropped = λ g t. refl }) (λ g l. refl) cs f

pub users_stay : UsersStay
users_stay = record { switches = λ s cs. run_switches cs (fresh s); users = λ s cs. run_users cs (fresh s) }
