-- The invariant is kept by every accepted call, by kind of request, and by every refused one.
use Rattle.std.specs.Prelude.{ℕ, ◌<◌, ◌≡◌, refl, ◌≢◌, Bool, true, false, not, eqb}
use Rattle.std.proofs.Common.{sym, ◌∙◌, subst, arith, ltb-true, eqb-true, eq-eqb, ne_eqb}
use Rattle.std.proofs.lemmas.Bool.{not-true}
use Rattle.rules.specs.Types.{Call, Process, Facility}
use Rattle.labels.specs.Decisions.{◌and◌}
use Rattle.labels.proofs.Laws.Decisions.{or_cases, clash, by_test}
use Rattle.state.specs.Laws.ReadBack.{process_same, process_other, add_object_law, opens_put}
use Rattle.opens.specs.Laws.Opens.{terminated_opens}
use Rattle.answers.specs.Outcomes.{denies}
use Rattle.opens.specs.Opens.{most_processes, most_objects, reading, writing, close_process}
use Rattle.state.specs.State.{process_of, runs, live, trusted_user, label_of, opens_of, put_process, put_opens, fresh_process, no_process, open_by}
use Rattle.labels.specs.Labels.{Label, given, ◌⊑◌}
use Rattle.labels.proofs.Laws.Labels.{⊑_refl, ⊑_trans, bottom_least}
use Rattle.answers.specs.Answers.{passes}
use Rattle.answers.proofs.Laws.Answers.{passes_grant}
use Rattle.rules.specs.Effects.{created, effect_from, effect_by}
use Rattle.rules.specs.Calls.{accepted, after_refusal, after}
use Rattle.rules.specs.Histories.{trusted_login}
use Rattle.rules.specs.Requests.{Action, Login, Clone, SendSignal, SetLevel, Terminate, Create, OnObject, Unknown, Class, Absent, Reads, Writes}
use Rattle.rules.specs.Requests.{Both, NoCondition, OpenChange, Keep, Add, Close, CloseAll, action_of, is_absent, is_no_condition, alters, is_login}
use Rattle.rules.specs.Requests.{in_directory, open_change}
use Rattle.rules.specs.Matter.{nothing, Account, process_gains, object_gains, assign, takes, gives, carry, carry_by, after_entry}
use Rattle.rules.specs.Modules.{view_of, class_in, mac_object, mac_rule, moved, levelled, signalled}
use Rattle.rules.specs.Questions.{open_for, number}
use Rattle.rules.proofs.Moves.{Moved, Closed, move_moved, move_closed, move_over, inv_move, object_granted, moved_is, levelled_moved}
use Rattle.rules.proofs.Moves.{signalled_moved, signalled_mark, signal_level}
use Rattle.rules.proofs.Invariant.{Knows, Reaches, FitsAt, Inv, inv_process, inv_drop, inv_counted, inv_take, inv_give, inv_assign, inv_enter}
use Rattle.rules.proofs.Opens.{not_reading, not_writing, inv_add, inv_close, inv_close_object, inv_close_process, inv_copy}
use Rattle.rules.proofs.Classes.{class_create, request_create, add_reads, add_writes}
use Rattle.rules.proofs.Passed.{Passed, passed, mac_passed, accepted_zero}

-- the set just assigned
assigned : (a : Account) (p : ℕ) (s : ℕ → Bool) (c : ℕ) → (assign a p s).processes p c ≡ s c
unfolding assign
assigned a p s c = rw (eq-eqb p p refl)

step_login : (f : Facility) (a : Account) (c : Call) → Inv f a → Passed Login (view_of f c) c → trusted_user f c.extra ≡ false
    → Inv (effect_by Login f c) (carry_by Login a c)
unfolding effect_from carry_by fresh_process
step_login f a c I q u =
    inv_process f (assign a c.process nothing) c.process (fresh_process c.extra)
    (inv_assign f a c.process nothing I (λ x r m. clash m refl))
    q.process
    (record {
      owner = λ r. u;
      ordered = λ r. record { low = ⊑_refl _; high = bottom_least _ };
      readable = λ t h m. clash ((I.process c.process).readable t h m).0 stopped;
      writable = λ t h m. clash ((I.process c.process).writable t h m).0 stopped;
      knows = λ x r m. clash (rw (assigned a c.process nothing x) at m) refl;
    })
  where
    stopped : runs f c.process ≡ false
    stopped = not-true _ q.new_login

step_clone : (f : Facility) (a : Account) (c : Call) → Inv f a → Passed Clone (view_of f c) c → Inv (effect_by Clone f c) (carry_by Clone a c)
unfolding effect_from carry_by put_process
step_clone f a c I q =
    inv_copy (put_process f t (view_of f c).caller) (assign a t (a.processes p)) p t
    (inv_process f (assign a t (a.processes p)) t (view_of f c).caller
    (inv_assign f a t (a.processes p) I (λ x r m. clash r stopped))
    below
    (record {
      owner = F.owner;
      ordered = F.ordered;
      readable = λ u h m. clash ((I.process t).readable u h m).0 stopped;
      writable = λ u h m. clash ((I.process t).writable u h m).0 stopped;
      knows = λ x r m. F.knows x r (rw (assigned a t (a.processes p) x) at m);
    }))
    (process_same f t (view_of f c).caller I.sound.shaped below ∙ sym (process_other f t p (view_of f c).caller apart))
  where
    p : ℕ
    p = c.process

    t : ℕ
    t = c.target

    F : FitsAt f a p (process_of f p)
    F = I.process p

    below : t < most_processes
    below = ltb-true _ _ q.cloned

    stopped : runs f t ≡ false
    stopped = not-true _ q.new_clone

    apart : p ≢ t
    apart e = clash (subst (λ (x : ℕ). runs f x ≡ true) e q.running) stopped

step_terminate : (f : Facility) (a : Account) (c : Call) → Inv f a → Passed Terminate (view_of f c) c → Inv (effect_by Terminate f c) (carry_by Terminate a c)
unfolding effect_from carry_by put_process put_opens opens_of no_process
step_terminate f a c I q =
    inv_process (put_opens f (close_process f.opens c.process)) a c.process no_process
    (inv_close_process f a c.process I)
    q.process
    (record {
      owner = λ r. clash r refl;
      ordered = λ r. clash r refl;
      readable = λ t h m. not_reading (gone t h) m;
      writable = λ t h m. not_writing (gone t h) m;
      knows = λ x r m. clash r refl;
    })
  where
    gone : (t : ℕ) → t < most_objects → opens_of (put_opens f (close_process f.opens c.process)) c.process t ≡ 0
    gone t h = opens_put f (close_process f.opens c.process) c.process t h
        ∙ rw (terminated_opens f.opens c.process c.process t I.sound.shaped.opens q.process h, eq-eqb c.process c.process refl)

step_set_level : (f : Facility) (a : Account) (c : Call) → Inv f a → Passed SetLevel (view_of f c) c → Inv (effect_by SetLevel f c) (carry_by SetLevel a c)
unfolding effect_from carry_by mac_rule
step_set_level f a c I q =
    inv_move f a c.process (levelled (view_of f c) c) I q.process (levelled_moved (view_of f c) c I.mac
    (passes_grant _ (mac_passed SetLevel (view_of f c) c q I.mac)))

step_signal : (f : Facility) (a : Account) (c : Call) → Inv f a → Passed SendSignal (view_of f c) c
    → Inv (effect_by SendSignal f c) (carry_by SendSignal a c)
unfolding effect_from carry_by put_process
step_signal f a c I q =
    inv_assign (put_process f t (signalled (view_of f c))) a t _ raised
    (λ x r m. or_cases _ _ m
    (λ own. (raised.process t).knows x r own)
    (λ new.
    let K = (I.process p).knows x q.running new in
    rw now (record {
      inside = K.inside;
      labelled = K.labelled;
      below = rw (signalled_mark (view_of f c) I.mac ut, ← level) (⊑_trans _ _ _ K.below ((I.process p).ordered q.running).low);
    })))
  where
    p : ℕ
    p = c.process

    t : ℕ
    t = c.target

    small_t : t < most_processes
    small_t = ltb-true _ _ q.signalled

    ut : trusted_user f (process_of f c.target).owner ≡ false
    ut = (I.process t).owner q.receiver

    level : (view_of f c).caller.current ≡ (view_of f c).target.receiver.current
    level = signal_level (view_of f c) c ((I.process p).owner q.running) (mac_passed SendSignal (view_of f c) c q I.mac)

    raised : Inv (put_process f t (signalled (view_of f c))) a
    raised = inv_move f a t (signalled (view_of f c)) I small_t (signalled_moved (view_of f c) I.mac ut ((I.process t).ordered q.receiver))

    now : process_of (put_process f t (signalled (view_of f c))) t ≡ signalled (view_of f c)
    now = process_same f t (signalled (view_of f c)) I.sound.shaped small_t

-- a granted call on an object by an untrusted caller
record Granted-on (f : Facility) (c : Call) : Type 0 where
  moves : Moved (view_of f c).caller (moved (view_of f c) c)
  labelled : given (label_of f c.target) ≡ true
  closes : Closed (class_in (view_of f c) c) (label_of f c.target) (moved (view_of f c) c)
  over : alters (class_in (view_of f c) c) ≡ true → (moved (view_of f c) c).readmark ⊑ label_of f c.target

granted_on : (f : Facility) (a : Account) (c : Call) → Inv f a → runs f c.process ≡ true
    → passes (mac_object (class_in (view_of f c) c) (view_of f c).target.object (view_of f c).caller (view_of f c).owner) ≡ true → Granted-on f c
granted_on f a c I r h =
    let u = (I.process c.process).owner r in
    let o = (I.process c.process).ordered r in
    let (g, m) = object_granted _ _ _ _ u h in
    let e = moved_is (view_of f c) c I.mac u in
    record {
      moves = rw e (move_moved _ _ _ _ o m);
      labelled = g;
      closes = rw e (move_closed _ _ _);
      over = λ w. rw e (move_over _ _ _ _ o m w);
    }

-- such a call, with the facility whose caller has moved
module _ (f : Facility) (a : Account) (c : Call) (I : Inv f a) (hp : c.process < most_processes) (r : runs f c.process ≡ true)
    (v : live f c.target ≡ true) (G : Granted-on f c) where
  -- the caller's state, and the object, after the move
  now : process_of (put_process f c.process (moved (view_of f c) c)) c.process ≡ moved (view_of f c) c
  now = process_same f c.process (moved (view_of f c) c) I.sound.shaped hp

  inv_now : Inv (put_process f c.process (moved (view_of f c) c)) a
  inv_now = inv_move f a c.process (moved (view_of f c) c) I hp G.moves

  runs_now : runs (put_process f c.process (moved (view_of f c) c)) c.process ≡ true
  runs_now = rw (now, G.moves.running) r

  inside : c.target < f.entered
  inside = I.sound.alive c.target v

  small : c.target < most_objects
  small = omega (arith, inside, I.sound.entered)

  knows_now : label_of f c.target ⊑ (moved (view_of f c) c).readmark
      → Knows f.entered (label_of f c.target) c.target (process_of (put_process f c.process (moved (view_of f c) c)) c.process)
  knows_now b = rw now (record { inside = inside; labelled = G.labelled; below = b })

  reaches_now : (moved (view_of f c) c).writemark ⊑ label_of f c.target
      → Reaches f.entered (label_of f c.target) c.target (process_of (put_process f c.process (moved (view_of f c) c)) c.process)
  reaches_now b = rw now (record { inside = inside; labelled = G.labelled; above = b })

  give_now : (moved (view_of f c) c).readmark ⊑ label_of f c.target → Inv (put_process f c.process (moved (view_of f c) c))
      (object_gains a c.process c.target)
  unfolding put_process
  give_now b = inv_give _ a c.process c.target inv_now runs_now inside G.labelled (rw now b)

  take_now : label_of f c.target ⊑ (moved (view_of f c) c).readmark → Inv (put_process f c.process (moved (view_of f c) c))
      (process_gains a c.process c.target)
  unfolding put_process
  take_now b = inv_take _ a c.process c.target inv_now (knows_now b)

-- a process takes only what it may know, and gives only to what is at least its read mark
takes_below : (k : Class) (r : ℕ) (l : Label) (s : Process) → Closed k l s → (is_no_condition k ≡ true → eqb r 12 ≡ true → l ⊑ s.readmark)
    → takes r k ≡ true → l ⊑ s.readmark
takes_below Absent r l s C n h = clash h refl
takes_below Reads r l s C n h = C.reads refl
takes_below Writes r l s C n h = clash h refl
takes_below Both r l s C n h = clash h refl
takes_below NoCondition r l s C n h = n refl h

gives_over : (k : Class) (r : ℕ) (l : Label) (s : Process) → (alters k ≡ true → s.readmark ⊑ l)
    → (is_no_condition k ≡ true → eqb r 19 ≡ true → s.readmark ⊑ l) → gives r k ≡ true → s.readmark ⊑ l
gives_over Absent r l s w n h = clash h refl
gives_over Reads r l s w n h = clash h refl
gives_over Writes r l s w n h = w refl
gives_over Both r l s w n h = clash h refl
gives_over NoCondition r l s w n h = n refl h

step_create : (f : Facility) (a : Account) (c : Call) → Inv f a → action_of c.request ≡ Create → Passed Create (view_of f c) c
    → Inv (effect_by Create f c) (carry_by Create a c)
unfolding effect_from carry_by mac_rule put_process
step_create f a c I k q =
    by_test (in_directory c.extra)
    (λ e.
    let v : live f c.target ≡ true = rw e at q.alive in
    let n : not (is_absent (class_in (view_of f c) c)) ≡ true = rw e at q.class in
    let G = granted_on f a c I q.running (rw e at (mac_passed Create (view_of f c) c q I.mac)) in
    let r4 = request_create _ k in
    rw (e, add_object_law (put_process f c.process (moved (view_of f c) c)) (created (moved (view_of f c) c) c.extra c.target) (ltb-true _ _ q.room))
    (inv_enter (put_process f c.process (moved (view_of f c) c)) (object_gains a c.process c.target)
    (created (moved (view_of f c) c) c.extra c.target)
    (give_now f a c I q.process q.running v G (G.over (rw r4 (class_create _ (rw r4 at n)))))
    (ltb-true _ _ q.room)))
    (λ e. rw (e, add_object_law f (created (view_of f c).caller c.extra c.target) (ltb-true _ _ q.room))
    (inv_enter f a (created (view_of f c).caller c.extra c.target) I (ltb-true _ _ q.room)))

-- a call of class N: what its open mark says
neutral_read : (f : Facility) (c : Call) → open_for (view_of f c) c ≡ true → eqb c.request 12 ≡ true → reading (opens_of f c.process c.target) ≡ true
unfolding open_for
neutral_read f c h e = rw e at h

neutral_write : (f : Facility) (c : Call) → open_for (view_of f c) c ≡ true → eqb c.request 19 ≡ true → writing (opens_of f c.process c.target) ≡ true
unfolding open_for
neutral_write f c h e =
    rw (ne_eqb c.request 12 (λ q. absurd (omega (arith, eqb-true c.request 19 e))), e) at h

module _ (f : Facility) (a : Account) (c : Call) (I : Inv f a) (q : Passed OnObject (view_of f c) c) (G : Granted-on f c) where
  ht : c.target < most_objects
  ht = small f a c I q.process q.running q.alive G

  class_open : is_no_condition (class_in (view_of f c) c) ≡ true → open_for (view_of f c) c ≡ true
  class_open n = rw n at q.opened

  take_below : takes c.request (class_in (view_of f c) c) ≡ true → label_of f c.target ⊑ (moved (view_of f c) c).readmark
  take_below =
      takes_below (class_in (view_of f c) c) c.request (label_of f c.target) (moved (view_of f c) c) G.closes
      (λ n e. ⊑_trans _ _ _ ((I.process c.process).readable c.target ht (neutral_read f c (class_open n) e)).1.below G.moves.up)

  give_over : gives c.request (class_in (view_of f c) c) ≡ true → (moved (view_of f c) c).readmark ⊑ label_of f c.target
  give_over =
      gives_over (class_in (view_of f c) c) c.request (label_of f c.target) (moved (view_of f c) c) G.over
      (λ n e.
      ⊑_trans _ _ _ G.moves.ordered.low
      (⊑_trans _ _ _ G.moves.ordered.high
      (⊑_trans _ _ _ G.moves.down
      ((I.process c.process).writable c.target ht (neutral_write f c (class_open n) e)).1.above)))

  carried : Inv (put_process f c.process (moved (view_of f c) c)) (carry (class_in (view_of f c) c) a c)
  unfolding carry
  carried =
      by_test (takes c.request (class_in (view_of f c) c))
      (λ h. rw h (take_now f a c I q.process q.running q.alive G (take_below h)))
      (λ h. rw h (by_test (gives c.request (class_in (view_of f c) c))
      (λ k. rw k (give_now f a c I q.process q.running q.alive G (give_over k)))
      (λ k. rw k (inv_now f a c I q.process q.running q.alive G))))

  open_kept : (o : OpenChange) → open_change c.request ≡ o
      → Inv (open_by o (put_process f c.process (moved (view_of f c) c)) c.process c.target) (carry (class_in (view_of f c) c) a c)
  unfolding open_by put_process
  open_kept Keep e = carried
  open_kept Close e = inv_close (put_process f c.process (moved (view_of f c) c)) _ c.process c.target carried q.process ht
  open_kept CloseAll e =
      inv_drop _ _ c.target (inv_close_object (put_process f c.process (moved (view_of f c) c)) _ c.target carried)
  open_kept (Add m) e =
      inv_add (put_process f c.process (moved (view_of f c) c)) _ c.process c.target m carried q.process ht
      (λ h. (
        runs_now f a c I q.process q.running q.alive G,
        knows_now f a c I q.process q.running q.alive G (G.closes.reads (add_reads c.request _ m e q.class h)),
      ))
      (λ h. (
        runs_now f a c I q.process q.running q.alive G,
        reaches_now f a c I q.process q.running q.alive G (G.closes.writes (add_writes c.request _ m e q.class h)),
      ))

step_target : (f : Facility) (a : Account) (c : Call) → Inv f a → Passed OnObject (view_of f c) c → Inv (effect_by OnObject f c) (carry_by OnObject a c)
unfolding effect_from carry_by mac_rule
step_target f a c I q =
    let G = granted_on f a c I q.running (mac_passed OnObject (view_of f c) c q I.mac) in
    rw (I.kinds c.target (inside f a c I q.process q.running q.alive G))
    (open_kept f a c I q G (open_change c.request) refl)

-- every accepted call, by kind of request
step : (k : Action) (f : Facility) (a : Account) (c : Call) → Inv f a → action_of c.request ≡ k → (is_login k and trusted_user f c.extra) ≡ false
    → Passed k (view_of f c) c → Inv (effect_by k f c) (carry_by k a c)
unfolding effect_from carry_by ◌and◌
step Login f a c I e u q = step_login f a c I q u
step Clone f a c I e u q = step_clone f a c I q
step SendSignal f a c I e u q = step_signal f a c I q
step SetLevel f a c I e u q = step_set_level f a c I q
step Terminate f a c I e u q = step_terminate f a c I q
step Create f a c I e u q = step_create f a c I e q
step OnObject f a c I e u q = step_target f a c I q
step Unknown f a c I e u q = I

-- every call
pub inv_after : (f : Facility) (a : Account) (c : Call) → Inv f a → trusted_login f c ≡ false
    → Inv (after f c) (after_entry a (record { call = c; accepted = accepted f c }))
unfolding after after_entry trusted_login after_refusal ◌and◌
inv_after f a c I u =
    by_test (accepted f c)
    (λ h. rw h (step (action_of c.request) f a c I refl (rw h at u) (passed (action_of c.request) (view_of f c) c (accepted_zero f c h))))
    (λ h. rw h (by_test (denies (number f c)) (λ e. rw e (inv_counted f a _ I)) (λ e. rw e I)))
