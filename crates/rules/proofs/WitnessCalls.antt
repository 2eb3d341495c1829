-- Demand 3, second half: the accepted logins, set-levels and signals of the lists by which b comes to hold a's matter.
use Rattle.std.specs.Prelude.{ℕ, ◌<◌, ◌≡◌, ◌≢◌, true, false, List, ◌∷◌, leb}
use Rattle.std.proofs.Math.Path.{refl}
use Rattle.std.proofs.Common.{◌∙◌}
use borrow.Author.Tests.{lt-ltb, eq-eqb}
use Rattle.rules.specs.Types.{Call, Process, Facility}
use Rattle.labels.specs.Decisions.{◌and◌}
use Rattle.labels.proofs.Laws.Decisions.{or_r}
use Rattle.state.specs.Laws.ReadBack.{process_other}
use Rattle.opens.specs.Opens.{most_processes}
use Rattle.state.specs.State.{process_of, runs, clearance_of, put_process, fresh_process, open_by}
use Rattle.labels.specs.Labels.{Label}
use Rattle.labels.proofs.Laws.Labels.{eq_same}
use Rattle.answers.specs.Answers.{passes}
use Rattle.answers.proofs.Laws.Answers.{grant_passes}
use Rattle.rules.specs.Effects.{effect_from, effect_by}
use Rattle.rules.specs.Calls.{accepted}
use Rattle.rules.specs.Requests.{Login, SendSignal, SetLevel, OpenChange, action_of}
use Rattle.rules.specs.Matter.{nothing, union, Account, assign, carry_by}
use Rattle.rules.specs.Modules.{view_of, may_set, mac_signal, mac_rule, set_level, levelled, read_mark_raised, signalled}
use Rattle.rules.proofs.Passed.{accepted_by}
use Rattle.rules.proofs.Processes.{open_process}
use Rattle.rules.proofs.Witness.{alone_is, Setting, Scene, put_scene, Reach, reach_call}

-- a login of u as process p; a set-level of p; a signal from p to q
abbrev pub login_as : ℕ → ℕ → Call
login_as p u = record { request = 21; process = p; target = 0; extra = u }

abbrev pub set_to : ℕ → Label → Call
set_to p l = record { request = 17; process = p; target = l.set; extra = l.level }

abbrev pub signal : ℕ → ℕ → Call
signal p q = record { request = 16; process = p; target = q; extra = 0 }

-- process q is as it was, in another setting
pub kept_scene : (q : ℕ) (f₀ f g : Facility) (a b : Account) (u : ℕ) (s : Process) → Scene q f₀ f a u s → Setting f₀ g b u
    → process_of g q ≡ process_of f q → Scene q f₀ g b u s
kept_scene q f₀ f g a b u s Q T e =
    record { small = Q.small; setting = T; process = e ∙ Q.process; running = Q.running; owner = Q.owner }

-- a call on an object by p leaves the other processes
pub other_kept : (o : OpenChange) (f : Facility) (p t q : ℕ) (r : Process) → q ≢ p → process_of (open_by o (put_process f p r) p t) q ≡ process_of f q
other_kept o f p t q r n = open_process o (put_process f p r) p t q ∙ process_other f p q r n

-- a login
module _ (p : ℕ) (f₀ f : Facility) (a : Account) (u : ℕ) (T : Setting f₀ f a u) (h : p < most_processes) (z : runs f p ≡ false) where
  login_accepted : accepted f (login_as p u) ≡ true
  unfolding mac_rule passes action_of
  login_accepted =
      accepted_by f (login_as p u) Login refl
      (record {
        known = refl;
        process = h;
        cloned = refl;
        signalled = refl;
        running = refl;
        receiver = refl;
        new_login = rw z;
        new_clone = refl;
        user = lt-ltb _ _ T.known;
        kind = refl;
        alive = refl;
        class = refl;
        opened = refl;
        room = refl;
        level = refl;
        answer = rw (alone_is Login (view_of f (login_as p u)) (login_as p u) T.alone);
      })

  pub reach_login : (cs : List Call) (b x : ℕ)
      → (Scene p f₀ (put_process f p (fresh_process u)) (assign a p nothing) u (fresh_process u)
      → Reach (put_process f p (fresh_process u)) (assign a p nothing) cs b x)
      → Reach f a (login_as p u ∷ cs) b x
  unfolding action_of ◌and◌ effect_from carry_by fresh_process assign
  reach_login cs b x R =
      reach_call f a (login_as p u) Login cs b x refl login_accepted (rw T.user T.untrusted)
      (R (put_scene p f₀ f a (assign a p nothing) u (fresh_process u) T h refl refl (λ t. refl)))

-- a set-level
module _ (p : ℕ) (f₀ f : Facility) (a : Account) (u : ℕ) (r : Process) (l : Label) (S : Scene p f₀ f a u r) (low : leb l.level 15 ≡ true)
    (may : may_set l r (clearance_of f₀ u) ≡ true) where
  level_answer : passes (mac_rule SetLevel (view_of f (set_to p l)) (set_to p l)) ≡ true
  unfolding mac_rule may_set
  level_answer = grant_passes _ (rw (S.process, S.owner, S.setting.user) may)

  level_accepted : accepted f (set_to p l) ≡ true
  unfolding action_of
  level_accepted =
      accepted_by f (set_to p l) SetLevel refl
      (record {
        known = refl;
        process = S.small;
        cloned = refl;
        signalled = refl;
        running = rw S.process S.running;
        receiver = refl;
        new_login = refl;
        new_clone = refl;
        user = refl;
        kind = refl;
        alive = refl;
        class = refl;
        opened = refl;
        room = refl;
        level = low;
        answer = rw (alone_is SetLevel (view_of f (set_to p l)) (set_to p l) S.setting.alone) level_answer;
      })

  level_effect : effect_by SetLevel f (set_to p l) ≡ put_process f p (set_level l r)
  unfolding effect_from levelled
  level_effect = rw (S.setting.alone.mac, S.process)

  pub reach_level : (cs : List Call) (b x : ℕ)
      → (Scene p f₀ (put_process f p (set_level l r)) a u (set_level l r) → Reach (put_process f p (set_level l r)) a cs b x)
      → Reach f a (set_to p l ∷ cs) b x
  unfolding action_of ◌and◌ carry_by set_level
  reach_level cs b x R =
      reach_call f a (set_to p l) SetLevel cs b x refl level_accepted refl
      (rw level_effect (R (put_scene p f₀ f a a u (set_level l r) S.setting S.small S.running S.owner (λ t. refl))))

-- a signal from p to q, whose current labels are equal
module _ (p q : ℕ) (f₀ f : Facility) (a : Account) (u : ℕ) (r s : Process) (S : Scene p f₀ f a u r) (Q : Scene q f₀ f a u s)
    (e : r.current ≡ s.current) where
  signal_answer : passes (mac_rule SendSignal (view_of f (signal p q)) (signal p q)) ≡ true
  unfolding mac_rule mac_signal
  signal_answer = grant_passes _ (or_r _ _ (rw (S.process, Q.process) (eq_same _ _ e)))

  signal_accepted : accepted f (signal p q) ≡ true
  unfolding action_of
  signal_accepted =
      accepted_by f (signal p q) SendSignal refl
      (record {
        known = refl;
        process = S.small;
        cloned = refl;
        signalled = lt-ltb _ _ Q.small;
        running = rw S.process S.running;
        receiver = rw Q.process Q.running;
        new_login = refl;
        new_clone = refl;
        user = refl;
        kind = refl;
        alive = refl;
        class = refl;
        opened = refl;
        room = refl;
        level = refl;
        answer = rw (alone_is SendSignal (view_of f (signal p q)) (signal p q) S.setting.alone) signal_answer;
      })

  signal_effect : effect_by SendSignal f (signal p q) ≡ put_process f q (read_mark_raised s)
  unfolding effect_from signalled ◌and◌
  signal_effect = rw (S.setting.alone.mac, Q.process, Q.owner, Q.setting.user, S.setting.untrusted)

  -- the account with q's set
  abbrev pub gained : Account
  gained = assign a q (union (a.processes q) (a.processes p))

  pub reach_signal : (cs : List Call) (b x : ℕ) → a.processes p x ≡ true
      → (Scene q f₀ (put_process f q (read_mark_raised s)) gained u (read_mark_raised s) → gained.processes q x ≡ true
      → Reach (put_process f q (read_mark_raised s)) gained cs b x)
      → Reach f a (signal p q ∷ cs) b x
  unfolding action_of ◌and◌ carry_by assign
  reach_signal cs b x has R =
      reach_call f a (signal p q) SendSignal cs b x refl signal_accepted refl
      (rw signal_effect (R (put_scene q f₀ f a gained u (read_mark_raised s) Q.setting Q.small Q.running Q.owner (λ t. refl))
      (rw (eq-eqb q q refl) (or_r _ _ has))))
