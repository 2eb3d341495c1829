-- Every running process is owned by a user, the one whom the history of calls tells; and a 12 or 13 has a running caller.
use Rattle.std.specs.Prelude.{ℕ, ◌<◌, ◌≡◌, refl, ◌≢◌, Bool, true, false, not, cond, List, [], ◌∷◌}
use Rattle.std.proofs.Math.Path.{sym, subst⁻¹}
use Rattle.std.proofs.Common.{◌∙◌, ap, subst, arith}
use borrow.Author.Tests.{ltb-true, eqb-true, eq-eqb, ne_eqb}
use Rattle.rules.specs.Types.{Answer, NotCared, Call, Process, Facility}
use Rattle.labels.specs.Decisions.{◌and◌, on}
use Rattle.labels.proofs.Laws.Decisions.{and_l, clash, by_test}
use Rattle.answers.specs.Outcomes.{denies, answers_from}
use Rattle.answers.specs.Answers.{passes}
use Rattle.state.specs.State.{most_users, process_of, fresh_process, no_process}
use Rattle.rules.specs.Effects.{effect_by}
use Rattle.rules.specs.Calls.{owner_in, accepted, after}
use Rattle.rules.specs.Requests.{Action, Login, Clone, SendSignal, SetLevel, Terminate, Create, OnObject, Unknown, Class, Absent, Reads, Writes, Both}
use Rattle.rules.specs.Requests.{NoCondition, action_of, action_code, is_login, is_clone, in_directory}
use Rattle.rules.specs.Modules.{View, view_of, class_in, mac_rule, mac_answer, fc_answer, sim_answer, ff_answer, answers, move_by, set_level, moved, levelled}
use Rattle.rules.specs.Modules.{signalled}
use Rattle.rules.specs.Questions.{is_running, number_by, number}
use Rattle.rules.proofs.Passed.{Passed, passed, accepted_zero, judged}
use Rattle.rules.proofs.Sound.{Sound}
use Rattle.rules.proofs.Actions.{is_login_law, is_clone_law}
use Rattle.rules.proofs.Processes.{Each, Put, None, At, put, New, unput_login, unput_clone, each_effect, each_refused}
use Rattle.rules.proofs.Fresh.{fresh_setup}
use Rattle.rules.proofs.Regular.{Regular, regular_after}
use Rattle.rules.specs.Setup.{fresh}
use Rattle.rules.specs.Histories.{run, Step, past, is_start, is_cloning, owner_after}
use Rattle.labels.specs.Labels.{Label}

-- the owner of each process that runs is a user, the one whom the history tells
abbrev TellsOwner : List Step → ℕ → Process → Type 0
TellsOwner xs p r = on r.running ≡ true → (r.owner < most_users) × (r.owner ≡ owner_after xs p)

abbrev pub Owned : List Step → Facility → Type 0
Owned xs f = Each (TellsOwner xs) f

-- a move leaves whether a process runs, and its owner
pub record SameOwner (r q : Process) : Type 0 where
  pub running : r.running ≡ q.running
  pub owner : r.owner ≡ q.owner

same_owner : (r : Process) → SameOwner r r
same_owner r = record { running = refl; owner = refl }

move_owner : (k : Class) (l : Label) (r : Process) → SameOwner (move_by k l r) r
unfolding move_by
move_owner Absent l r = same_owner r
move_owner Reads l r = record { running = refl; owner = refl }
move_owner Writes l r = record { running = refl; owner = refl }
move_owner Both l r = record { running = refl; owner = refl }
move_owner NoCondition l r = same_owner r

pub moved_owner : (v : View) (c : Call) → SameOwner (moved v c) v.caller
unfolding moved
moved_owner v c =
    by_test (on v.switches.mac and not (on v.owner.trusted))
    (λ e. rw e (move_owner (class_in v c) v.target.object.label v.caller)) (λ e. rw e (same_owner v.caller))

pub levelled_owner : (v : View) (c : Call) → SameOwner (levelled v c) v.caller
unfolding levelled set_level
levelled_owner v c = by_test (on v.switches.mac) (λ e. rw e (record { running = refl; owner = refl })) (λ e. rw e (same_owner v.caller))

pub signalled_owner : (v : View) → SameOwner (signalled v) v.target.receiver
unfolding signalled
signalled_owner v =
    by_test (on v.switches.mac and not (on v.target.owner.trusted))
    (λ e. rw e (record { running = refl; owner = refl })) (λ e. rw e (same_owner v.target.receiver))

-- neither a login nor a cloning: the process that is put has the owner that it had, if it runs at all
abbrev KeepsOwner : Facility → ℕ → Process → Type 0
KeepsOwner f p r = on r.running ≡ true → SameOwner r (process_of f p)

put_owner : (k : Action) (f : Facility) (c : Call) → is_login k ≡ false → is_clone k ≡ false → New (KeepsOwner f) (put k (view_of f c) c)
unfolding no_process
put_owner Login f c l d = clash refl l
put_owner Clone f c l d = clash refl d
put_owner SendSignal f c l d = λ r. signalled_owner (view_of f c)
put_owner SetLevel f c l d = λ r. levelled_owner (view_of f c) c
put_owner Terminate f c l d = λ r. clash r refl
put_owner Create f c l d = by_test (in_directory c.extra) (λ e. rw e (λ r. moved_owner (view_of f c) c)) (λ e. rw e tt)
put_owner OnObject f c l d = λ r. moved_owner (view_of f c) c
put_owner Unknown f c l d = tt

clone_no_login : (k : Action) → is_clone k ≡ true → is_login k ≡ false
clone_no_login k h = let e = eqb-true (action_code k) 2 h in ne_eqb (action_code k) 21 (λ z. omega arith)

-- whether the last step begins process q: at a login, at a cloning, and else
module _ (f : Facility) (c : Call) where
  abbrev pub last : Step
  last = record { before = f; call = c }

  pub begun : accepted f c ≡ true → is_login (action_of c.request) ≡ true → is_start last c.process ≡ true
  unfolding is_start ◌and◌
  begun h l = rw (h, l, eq-eqb c.process c.process refl)

  pub branched : accepted f c ≡ true → is_clone (action_of c.request) ≡ true
      → (is_start last c.target ≡ false) × (is_cloning last c.target ≡ true)
  unfolding is_start is_cloning ◌and◌
  branched h l = rw (h, clone_no_login (action_of c.request) l, l, eq-eqb c.target c.target refl) (refl, refl)

  pub no_start : (q : ℕ) → (is_login (action_of c.request) ≡ true → q ≢ c.process) → is_start last q ≡ false
  unfolding is_start ◌and◌
  no_start q n =
      by_test (accepted f c)
      (λ h. by_test (is_login (action_of c.request))
      (λ l. rw (h, l) (ne_eqb c.process q (λ e. n l (sym e)))) (λ l. rw (h, l))) (λ h. rw h)

  pub no_cloning : (q : ℕ) → (is_clone (action_of c.request) ≡ true → q ≢ c.target) → is_cloning last q ≡ false
  unfolding is_cloning ◌and◌
  no_cloning q n =
      by_test (accepted f c)
      (λ h. by_test (is_clone (action_of c.request))
      (λ l. rw (h, l) (ne_eqb c.target q (λ e. n l (sym e)))) (λ l. rw (h, l))) (λ h. rw h)

-- the owner after one step more
module _ (f : Facility) (c : Call) (xs : List Step) where
  owner_start : is_start (last f c) c.process ≡ true → owner_after (last f c ∷ xs) c.process ≡ c.extra
  unfolding owner_after
  owner_start a = rw a

  owner_cloned : (is_start (last f c) c.target ≡ false) × (is_cloning (last f c) c.target ≡ true)
      → owner_after (last f c ∷ xs) c.target ≡ owner_after xs c.process
  unfolding owner_after
  owner_cloned a = rw (a.0, a.1)

  owner_else : (q : ℕ) → is_start (last f c) q ≡ false → is_cloning (last f c) q ≡ false → owner_after (last f c ∷ xs) q ≡ owner_after xs q
  unfolding owner_after
  owner_else q a b = rw (a, b)

  module _ (S : Sound f) (h : accepted f c ≡ true) (O : Owned xs f) where
    -- a process that is put with the owner that it had
    kept_owner : (k : Action) → action_of c.request ≡ k → is_login k ≡ false → is_clone k ≡ false
        → (x : Put) → New (KeepsOwner f) x → New (TellsOwner (last f c ∷ xs)) x
    kept_owner k e l d None w = tt
    kept_owner k e l d (At p r) w = λ n.
        let s = w n in
        let o = O p (sym (ap on s.running) ∙ n) in (
          subst⁻¹ (λ (u : ℕ). u < most_users) s.owner o.0,
          s.owner ∙ o.1 ∙ sym (owner_else _ (no_start f c _ (λ z. clash z (rw e l))) (no_cloning f c _ (λ z. clash z (rw e d)))),
        )

    -- a login, a cloning, and every other call
    new_login_law : action_of c.request ≡ Login → Passed Login (view_of f c) c → TellsOwner (last f c ∷ xs) c.process (fresh_process c.extra)
    unfolding fresh_process
    new_login_law e q r =
        let u : c.extra < f.users = ltb-true _ _ q.user in (omega (arith, S.users), sym (owner_start (begun f c h (rw e))))

    new_clone_law : action_of c.request ≡ Clone → TellsOwner (last f c ∷ xs) c.target (process_of f c.process)
    new_clone_law e r = let o = O c.process r in (o.0, o.1 ∙ sym (owner_cloned (branched f c h (rw e))))

    new_owner : (k : Action) → action_of c.request ≡ k → Passed k (view_of f c) c → New (TellsOwner (last f c ∷ xs)) (put k (view_of f c) c)
    new_owner k e q =
        by_test (is_login k)
        (λ l.
        let i = is_login_law k l in
        subst⁻¹ (λ (z : Action). New (TellsOwner (last f c ∷ xs)) (put z (view_of f c) c)) i
        (new_login_law (e ∙ i) (subst (λ (z : Action). Passed z (view_of f c) c) i q)))
        (λ l. by_test (is_clone k)
        (λ d. let i = is_clone_law k d in subst⁻¹ (λ (z : Action). New (TellsOwner (last f c ∷ xs)) (put z (view_of f c) c)) i (new_clone_law (e ∙ i)))
        (λ d. kept_owner k e l d (put k (view_of f c) c) (put_owner k f c l d)))

    owner_accepted : Owned (last f c ∷ xs) (effect_by (action_of c.request) f c)
    owner_accepted =
        let k = action_of c.request in
        let q = passed k (view_of f c) c (accepted_zero f c h) in
        each_effect (TellsOwner (last f c ∷ xs)) k f c S.shaped q (new_owner k refl q)
        (λ p u r.
        let o = O p r in
        (o.0, o.1 ∙ sym (owner_else p (no_start f c p (unput_login k (view_of f c) c p u)) (no_cloning f c p (unput_clone k (view_of f c) c p u)))))

  owner_unaccepted : accepted f c ≡ false → (q : ℕ) → owner_after (last f c ∷ xs) q ≡ owner_after xs q
  unfolding owner_after is_start is_cloning ◌and◌
  owner_unaccepted h q = rw h

pub owned_after : (f : Facility) (c : Call) (xs : List Step) → Sound f → Owned xs f → Owned (last f c ∷ xs) (after f c)
unfolding after
owned_after f c xs S O =
    by_test (accepted f c)
    (λ h. rw h (owner_accepted f c xs S h O))
    (λ h.
    let N : Owned (last f c ∷ xs) f = λ p r. let o = O p r in (o.0, o.1 ∙ sym (owner_unaccepted f c xs h p)) in
    rw h (each_refused (TellsOwner (last f c ∷ xs)) f (owner_in f c) (number f c) N))

-- in a fresh facility nobody runs; and so after every list
pub unowned : (s : List ℕ) → Owned [] (fresh s)
unowned s p r = clash r ((fresh_setup s).stopped p)

run_owned : (cs : List Call) (f : Facility) (xs : List Step) → Regular f → Owned xs f → Owned (past f cs xs) (run f cs)
unfolding run past
run_owned [] f xs R O = O
run_owned (c ∷ cs) f xs R O = run_owned cs (after f c) (last f c ∷ xs) (regular_after f c R) (owned_after f c xs R.sound O)

pub owned_run : (s : List ℕ) (cs : List Call) → Owned (past (fresh s) cs []) (run (fresh s) cs)
owned_run s cs = run_owned cs (fresh s) [] (fresh_setup s).regular (unowned s)

-- a login is never denied: MAC grants it, and no other module cares about it
uncared : (b : Bool) (x : Answer) → cond (b and false) x NotCared ≡ NotCared
unfolding ◌and◌
uncared true x = refl
uncared false x = refl

login_granted : (v : View) (c : Call) → passes (answers Login v c).combined ≡ true
unfolding answers answers_from mac_answer fc_answer sim_answer ff_answer mac_rule passes
login_granted v c =
    rw (uncared (on v.switches.fc) _, uncared (on v.switches.sim) _, uncared (on v.switches.ff) _)
    (by_test (on v.switches.mac) (λ m. rw m) (λ m. rw m))

denied_runs : (k : Action) (v : View) (c : Call) → denies (number_by k v c) ≡ true → on v.caller.running ≡ true
unfolding is_running
denied_runs k v c h =
    let j = judged k v c h in
    by_test (is_login k)
    (λ l. clash (login_granted v c) (subst (λ (z : Action). passes (answers z v c).combined ≡ false) (is_login_law k l) j.answer))
    (λ l. and_l _ _ (rw l at j.running))

-- a denied call's caller is owned by one of the sixteen, the one whom the history tells
pub denied_owner : (f : Facility) (c : Call) (xs : List Step) → Owned xs f → denies (number f c) ≡ true
    → (owner_in f c < most_users) × (owner_in f c ≡ owner_after xs c.process)
denied_owner f c xs O h = O c.process (denied_runs (action_of c.request) (view_of f c) c h)
