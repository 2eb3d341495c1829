-- What an accepted call makes of the processes: it puts one or none, and leaves the others.
use Rattle.std.specs.Prelude.{ℕ, ◌<◌, ◌≡◌, refl, ◌≢◌, true, cond, List, ltb}
use Rattle.std.proofs.Math.Path.{subst⁻¹}
use Rattle.std.proofs.Common.{subst, ltb-true}
use Rattle.rules.specs.Types.{Call, Process, Object, Facility}
use Rattle.labels.proofs.Laws.Decisions.{by_test, by_eq}
use Rattle.state.specs.Shaped.{Shaped}
use Rattle.state.specs.Laws.ReadBack.{process_same, process_other}
use Rattle.answers.specs.Outcomes.{denies}
use Rattle.opens.specs.Opens.{most_processes, most_objects}
use Rattle.state.specs.State.{Users, users_in, process_of, put_process, put_opens, put_object, add_object, drop_object, put_refusals, counted, fresh_process}
use Rattle.state.specs.State.{no_process, open_by}
use Rattle.rules.specs.Effects.{effect_from, effect_by}
use Rattle.rules.specs.Calls.{after_refusal}
use Rattle.rules.specs.Requests.{Action, Login, Clone, SendSignal, SetLevel, Terminate, Create, OnObject, Unknown, OpenChange, Keep, Add, Close}
use Rattle.rules.specs.Requests.{CloseAll, is_login, is_clone, in_directory, needs_object, open_change}
use Rattle.rules.specs.Modules.{View, view_of, moved, levelled, signalled}
use Rattle.rules.proofs.Actions.{is_login_law, is_clone_law, needs}
use Rattle.rules.proofs.Leaves.{effect_leaves}
use Rattle.rules.proofs.Passed.{Passed}

-- what holds of each process, by its number
abbrev pub Each : (ℕ → Process → Type 0) → Facility → Type 0
Each P f = (p : ℕ) → P p (process_of f p)

-- what holds of r at p and of every other process holds of each after r is put at p
pub each : (f : Facility) (p : ℕ) (r : Process) (P : ℕ → Process → Type 0) → Shaped f → p < most_processes
    → P p r → ((q : ℕ) → q ≢ p → P q (process_of f q)) → Each P (put_process f p r)
each f p r P s h new old q =
    by_eq q p
    (λ e. subst⁻¹ (λ (k : ℕ). P k (process_of (put_process f p r) k)) e (subst⁻¹ (P p) (process_same f p r s h) new))
    (λ n. subst⁻¹ (P q) (process_other f p q r n) (old q n))

-- what is done to opens and objects leaves the processes
pub open_process : (o : OpenChange) (f : Facility) (p t q : ℕ) → process_of (open_by o f p t) q ≡ process_of f q
unfolding open_by put_opens drop_object
open_process Keep f p t q = refl
open_process (Add m) f p t q = refl
open_process Close f p t q = refl
open_process CloseAll f p t q = refl

add_process : (f : Facility) (o : Object) (q : ℕ) → process_of (add_object f o) q ≡ process_of f q
unfolding add_object put_object
add_process f o q = by_test (ltb f.entered most_objects) (λ e. rw e) (λ e. rw e)

-- MAC's switch, the users and the counters of refusals, which no accepted call changes
abbrev pub untouched : Facility → ℕ × Users × List ℕ
untouched f = (f.mac, users_in f, f.refusals)

pub effect_untouched : (k : Action) (f : Facility) (c : Call) → untouched (effect_by k f c) ≡ untouched f
unfolding put_process put_opens put_object drop_object
effect_untouched k f c =
    effect_leaves untouched (record { process = λ g p r. refl; opens = λ g l. refl; object = λ g o. refl; dropped = λ g t. refl }) k f c

-- what an accepted call of an action puts: no process, or one at a number
pub data Put : Type 0 where
  None : Put
  At : ℕ → Process → Put

abbrev pub put : Action → View → Call → Put
put Login v c = At c.process (fresh_process c.extra)
put Clone v c = At c.target v.caller
put SendSignal v c = At c.target (signalled v)
put SetLevel v c = At c.process (levelled v c)
put Terminate v c = At c.process no_process
put Create v c = cond (in_directory c.extra) (At c.process (moved v c)) None
put OnObject v c = At c.process (moved v c)
put Unknown v c = None

-- what holds of the process that is put, and that process q is another
abbrev pub New : (ℕ → Process → Type 0) → Put → Type 0
New P None = Unit {0}
New P (At p r) = P p r

abbrev pub Unput : Put → ℕ → Type 0
Unput None q = Unit {0}
Unput (At p r) q = q ≢ p

-- so it is not that of a login, nor the new one of a cloning, nor the caller of a request on an object
pub unput_login : (k : Action) (v : View) (c : Call) (q : ℕ) → Unput (put k v c) q → is_login k ≡ true → q ≢ c.process
unput_login k v c q u h = subst (λ (z : Action). Unput (put z v c) q) (is_login_law k h) u

pub unput_clone : (k : Action) (v : View) (c : Call) (q : ℕ) → Unput (put k v c) q → is_clone k ≡ true → q ≢ c.target
unput_clone k v c q u h = subst (λ (z : Action). Unput (put z v c) q) (is_clone_law k h) u

pub unput_caller : (k : Action) (v : View) (c : Call) (q : ℕ) → Unput (put k v c) q → needs_object k c.extra ≡ true → q ≢ c.process
unput_caller k v c q u h =
    needs k c.extra h
    (λ e.
    let d : in_directory c.extra ≡ true = subst (λ (z : Action). needs_object z c.extra ≡ true) e h in
    rw d at (subst (λ (z : Action). Unput (put z v c) q) e u))
    (λ e. subst (λ (z : Action). Unput (put z v c) q) e u)

-- an accepted call: what holds of the process that it puts and of those that it leaves holds of each
pub each_effect : (P : ℕ → Process → Type 0) (k : Action) (f : Facility) (c : Call) → Shaped f → Passed k (view_of f c) c
    → New P (put k (view_of f c) c) → ((q : ℕ) → Unput (put k (view_of f c) c) q → P q (process_of f q)) → Each P (effect_by k f c)
unfolding effect_from put_opens
each_effect P Login f c s q new old = each f c.process _ P s q.process new old
each_effect P Clone f c s q new old = each f c.target _ P s (ltb-true _ _ q.cloned) new old
each_effect P SendSignal f c s q new old = each f c.target _ P s (ltb-true _ _ q.signalled) new old
each_effect P SetLevel f c s q new old = each f c.process _ P s q.process new old
each_effect P Terminate f c s q new old = each f c.process _ P s q.process new old
each_effect P Create f c s q new old =
    by_test (in_directory c.extra)
    (λ e.
    let E = each f c.process _ P s q.process (rw e at new) (rw e at old) in
    rw e (λ p. subst⁻¹ (P p) (add_process (put_process f c.process (moved (view_of f c) c)) _ p) (E p)))
    (λ e. rw e (λ p. subst⁻¹ (P p) (add_process f _ p) ((rw e at old) p tt)))
each_effect P OnObject f c s q new old =
    let E = each f c.process _ P s q.process new old in
    λ p. subst⁻¹ (P p) (open_process (open_change c.request) (put_process f c.process (moved (view_of f c) c)) c.process c.target p) (E p)
each_effect P Unknown f c s q new old = λ p. old p tt

-- the process that is put is read back
pub process_put : (k : Action) (f : Facility) (c : Call) (p : ℕ) (r : Process) → Shaped f → Passed k (view_of f c) c → put k (view_of f c) c ≡ At p r
    → process_of (effect_by k f c) p ≡ r
process_put k f c p r s q e =
    each_effect (λ n x. n ≡ p → x ≡ r) k f c s q (subst⁻¹ (New (λ n x. n ≡ p → x ≡ r)) e (λ z. refl))
    (λ n u z. absurd (subst (λ (x : Put). Unput x n) e u z)) p refl

-- a refused call leaves the processes
pub each_refused : (P : ℕ → Process → Type 0) (f : Facility) (u n : ℕ) → Each P f → Each P (after_refusal f u n)
unfolding after_refusal counted put_refusals
each_refused P f u n E = by_test (denies n) (λ d. rw d E) (λ d. rw d E)
