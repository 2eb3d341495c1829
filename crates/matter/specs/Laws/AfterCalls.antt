-- The account in words is document 01's account after every list of calls.
use Rattle.std.specs.Prelude.{◌<◌, ◌+◌, ℕ, ◌≡◌, refl, true, cond, List, [], ◌∷◌}
use Rattle.std.proofs.Common.{sym, ◌∙◌, ap, arith, ltb-true}
use Rattle.state.specs.declared.Call.{Call}
use Rattle.state.specs.declared.Facility.{Facility}
use Rattle.opens.specs.Opens.{most_objects}
use Rattle.state.specs.State.{live}
use Rattle.rules.specs.Calls.{owner_in, accepted, after}
use Rattle.rules.specs.Requests.{action_of, class_of, is_create, in_directory}
use Rattle.rules.specs.Modules.{view_of}
use Rattle.rules.specs.Questions.{number}
use Rattle.rules.proofs.Sound.{Sound}
use Rattle.rules.proofs.Passed.{passed, accepted_zero}
use Rattle.matter.specs.declared.Ledger.{Ledger}
use Rattle.matter.specs.Laws.LedgerIsAccount.{InRange, Sized, call_carried, sized_step, AllInRange, done, more, followed, started, sized_start}
use Rattle.labels.proofs.Laws.Decisions.{by_test}
use Rattle.rules.specs.declared.Action.{Action}
use Rattle.rules.specs.declared.Action.TheVariants.{Login, Clone, SendSignal, SetLevel, Terminate, Create, OnObject, Unknown}
use Rattle.rules.specs.Matter.{Account, process_gains, object_gains, assign, enter, takes, gives, carry, carry_by, account, account_after, holds}
use Rattle.rules.specs.Histories.{history}
use Rattle.matter.specs.LedgerSteps.{account_of, carried_of, step_of, start_of, held_by}
use Rattle.rules.specs.Effects.{effect_by}
use Rattle.rules.proofs.ObjectNumbers.{effect_entered, refused_entered}
use Rattle.rules.proofs.Regular.{Regular, regular_after}
use Rattle.rules.specs.Setup.{fresh}
use Rattle.rules.proofs.Fresh.{fresh_setup}
use Rattle.matter.specs.AfterCalls.{ledger_of}

-- an accepted call has numbers in range of a ledger with as many objects as the facility
pub accepted_in_range : (f : Facility) (l : Ledger) (c : Call) → Sound f → l.next ≡ f.entered → accepted f c ≡ true → InRange l c
accepted_in_range f l c S n h =
    let q = passed (action_of c.request) (view_of f c) c (accepted_zero f c h) in
    record {
      caller = q.process;
      cloned = λ k. ltb-true _ _ (rw k at q.cloned);
      signalled = λ k. ltb-true _ _ (rw k at q.signalled);
      object = λ k.
          let a : live f c.target ≡ true = rw k at q.alive in
          let b = S.alive c.target a in
          omega (arith, S.entered);
      number = λ k. let r : f.entered < most_objects = ltb-true _ _ (rw k at q.room) in omega arith;
    }

-- An accepted create moves the account's next number and the facility's count by one, every other call neither.
carry_next : (k : Action) (a : Account) (c : Call) → (carry_by k a c).next ≡ a.next + cond (is_create k) 1 0
unfolding carry_by assign carry process_gains object_gains enter
carry_next Login a c = omega arith
carry_next Clone a c = omega arith
carry_next SendSignal a c = omega arith
carry_next SetLevel a c = omega arith
carry_next Terminate a c = omega arith
carry_next Unknown a c = omega arith
carry_next Create a c = by_test (in_directory c.extra) (λ e. rw e) (λ e. rw e)
carry_next OnObject a c =
    let k = class_of c.request (a.kinds c.target) in
    by_test (takes c.request k) (λ d. rw d (omega arith))
    (λ d. by_test (gives c.request k) (λ e. rw (d, e) (omega arith)) (λ e. rw (d, e) (omega arith)))

account_next : (l : Ledger) → (account_of l).next ≡ l.next
unfolding account_of
account_next l = refl

next_carried : (f : Facility) (l : Ledger) (c : Call) → Sized l → Sound f → l.next ≡ f.entered → accepted f c ≡ true
    → (carried_of (action_of c.request) l c).next ≡ (effect_by (action_of c.request) f c).entered
next_carried f l c z S n h =
    let k = action_of c.request in
    let q = passed k (view_of f c) c (accepted_zero f c h) in
    sym (account_next (carried_of k l c))
    ∙ ap (λ (a : Account). a.next) (call_carried k l c z (accepted_in_range f l c S n h))
    ∙ carry_next k (account_of l) c
    ∙ ap (λ (m : ℕ). m + cond (is_create k) 1 0) (account_next l ∙ n)
    ∙ sym (effect_entered k f c q)

next_kept : (f : Facility) (l : Ledger) (c : Call) → Sized l → Sound f → l.next ≡ f.entered
    → (step_of l c (accepted f c)).next ≡ (after f c).entered
unfolding step_of after
next_kept f l c z S n =
    by_test (accepted f c)
    (λ h. rw h (next_carried f l c z S n h))
    (λ h. rw h (n ∙ sym (refused_entered f (owner_in f c) (number f c))))

all_in_range : (cs : List Call) (f : Facility) (l : Ledger) → Sized l → Regular f → l.next ≡ f.entered → AllInRange l (history f cs)
unfolding history
all_in_range [] f l z R n = done
all_in_range (c ∷ cs) f l z R n =
    more (λ h. accepted_in_range f l c R.sound n h)
    (all_in_range cs (after f c) (step_of l c (accepted f c)) (sized_step l c (accepted f c) z) (regular_after f c R) (next_kept f l c z R.sound n))

start_next : (n : ℕ) (kinds : List ℕ) → (start_of n kinds).next ≡ n
unfolding start_of
start_next n kinds = refl

pub account_kept : (s : List ℕ) (cs : List Call) → account_of (ledger_of s cs) ≡ account_after s cs
account_kept s cs =
    let f = fresh s in
    let R = (fresh_setup s).regular in
    let l = start_of f.entered f.kinds in
    let z = sized_start f.entered f.kinds R.sound.shaped.objects.kinds in
    followed l (history f cs) z (all_in_range cs f l z R (start_next f.entered f.kinds))
    ∙ ap (λ (a : Account). account a (history f cs)) (started f R.sound.entered)

-- what the code answers of an object is what the paper says
objects_held : (l : Ledger) (b a : ℕ) → held_by l.objects b a ≡ (account_of l).objects b a
unfolding account_of
objects_held l b a = refl

pub held_exactly : (s : List ℕ) (cs : List Call) (b a : ℕ) → held_by (ledger_of s cs).objects b a ≡ holds s cs b a
held_exactly s cs b a = objects_held (ledger_of s cs) b a ∙ ap (λ (x : Account). x.objects b a) (account_kept s cs)
