-- Demand 3, second half: a list by which b comes to hold a's matter.
use Rattle.std.specs.Prelude.{ℕ, ◌<◌, ◌≡◌, Bool, true, false, List, ◌∷◌, leb, eqb, length}
use Rattle.std.proofs.Math.Path.{refl}
use Rattle.std.proofs.Common.{sym, ◌∙◌, subst₂, length-set}
use borrow.Author.Tests.{eqb-true, eq-eqb}
use Rattle.rules.specs.Types.{Call, Process, Facility}
use Rattle.labels.specs.Decisions.{◌and◌, ◌or◌, asked, on}
use Rattle.labels.proofs.Laws.Decisions.{or_l, or_r, clash, by_test}
use Rattle.state.specs.Laws.Outside.{one_pair}
use Rattle.state.specs.Shaped.{Shaped}
use Rattle.state.specs.Laws.ReadBack.{process_same, shaped_process, shaped_opens}
use Rattle.opens.specs.Laws.Opens.{reading_add, writing_add}
use Rattle.answers.specs.Outcomes.{answers_from}
use Rattle.opens.specs.Opens.{most_processes, most_objects, most_opens, reading, writing, add_modes}
use Rattle.state.specs.State.{switches_of, process_of, object_of, user_of, live, trusted_user, label_of, clearance_of}
use Rattle.state.specs.State.{opens_of, put_process, put_opens, open_by}
use Rattle.labels.specs.Labels.{Label, given}
use Rattle.answers.specs.Answers.{passes}
use Rattle.answers.proofs.Laws.Answers.{combine_not_cared}
use Rattle.rules.specs.Flow.{MacAlone}
use Rattle.rules.specs.Effects.{effect_from, effect_by}
use Rattle.rules.specs.Calls.{accepted, after}
use Rattle.rules.specs.Histories.{trusted_login, trusted_logins, history}
use Rattle.rules.specs.Requests.{Action, OnObject, Class, Absent, Reads, Writes, Both, NoCondition, OpenChange, Keep, Add, Close, CloseAll}
use Rattle.rules.specs.Requests.{last_request, action_of, class_of, is_absent, is_no_condition, is_login, open_change}
use Rattle.rules.specs.Matter.{Account, process_gains, object_gains, takes, gives, carry, carry_by, after_entry, account}
use Rattle.rules.specs.Modules.{View, view_of, class_in, mac_class, mac_object, mac_rule, mac_answer, fc_answer, sim_answer, ff_answer, answers, move_by, moved}
use Rattle.rules.specs.Questions.{open_for}
use Rattle.rules.proofs.Passed.{accepted_by}

-- request r by process p on object t
abbrev pub by : ℕ → ℕ → ℕ → Call
by p r t = record { request = r; process = p; target = t; extra = 0 }

-- delete drops an object
abbrev pub drops : OpenChange → Bool
drops Keep = false
drops Close = false
drops CloseAll = true
drops (Add m) = false

move_running : (k : Class) (l : Label) (r : Process) → (move_by k l r).running ≡ r.running
unfolding move_by
move_running Absent l r = refl
move_running Reads l r = refl
move_running Writes l r = refl
move_running Both l r = refl
move_running NoCondition l r = refl

move_owner : (k : Class) (l : Label) (r : Process) → (move_by k l r).owner ≡ r.owner
unfolding move_by
move_owner Absent l r = refl
move_owner Reads l r = refl
move_owner Writes l r = refl
move_owner Both l r = refl
move_owner NoCondition l r = refl

-- with MAC on alone the combined answer is MAC's
pub alone_is : (k : Action) (v : View) (c : Call) → MacAlone v.switches → (answers k v c).combined ≡ mac_rule k v c
unfolding answers answers_from mac_answer fc_answer sim_answer ff_answer ◌and◌
alone_is k v c A = rw (A.mac, A.fc, A.sim, A.ff) (combine_not_cared _)

-- a state on the way, from the set-up's facility f₀: MAC alone is on, the objects are those of f₀, and u is an untrusted user
pub record Setting (f₀ f : Facility) (a : Account) (u : ℕ) : Type 0 where
  pub shaped : Shaped f
  pub alone : MacAlone (switches_of f)
  pub objects : (t : ℕ) → object_of f t ≡ object_of f₀ t
  pub known : u < f.users
  pub user : user_of f u ≡ user_of f₀ u
  pub untrusted : trusted_user f₀ u ≡ false
  pub kinds : (t : ℕ) → a.kinds t ≡ (object_of f₀ t).kind

-- and in it process p is r, and its owner u
pub record Scene (p : ℕ) (f₀ f : Facility) (a : Account) (u : ℕ) (r : Process) : Type 0 where
  pub small : p < most_processes
  pub setting : Setting f₀ f a u
  pub process : process_of f p ≡ r
  pub running : on r.running ≡ true
  pub owner : r.owner ≡ u

-- a process is put
pub put_scene : (p : ℕ) (f₀ f : Facility) (a b : Account) (u : ℕ) (r : Process) → Setting f₀ f a u → p < most_processes → on r.running ≡ true
    → r.owner ≡ u → ((t : ℕ) → b.kinds t ≡ a.kinds t) → Scene p f₀ (put_process f p r) b u r
unfolding put_process
put_scene p f₀ f a b u r T h run own k =
    record {
      small = h;
      setting = record {
        shaped = shaped_process f p r T.shaped;
        alone = T.alone;
        objects = T.objects;
        known = T.known;
        user = T.user;
        untrusted = T.untrusted;
        kinds = λ t. k t ∙ T.kinds t;
      };
      process = process_same f p r T.shaped h;
      running = run;
      owner = own;
    }

-- what request q of class k by process p, which is r, on object t needs
pub record Allowed (p : ℕ) (f₀ f : Facility) (u : ℕ) (r : Process) (q t : ℕ) (k : Class) : Type 0 where
  pub target : action_of q ≡ OnObject
  pub known : leb q last_request ≡ true
  pub alive : live f₀ t ≡ true
  pub class : class_of q (object_of f₀ t).kind ≡ k
  pub there : is_absent k ≡ false
  pub opened : asked (is_no_condition k) (open_for (view_of f (by p q t)) (by p q t)) ≡ true
  pub labelled : given (label_of f₀ t) ≡ true
  pub granted : passes (mac_class k (label_of f₀ t) r (clearance_of f₀ u)) ≡ true

module _ (p : ℕ) (f₀ f : Facility) (a : Account) (u : ℕ) (r : Process) (q t : ℕ) (k : Class) (S : Scene p f₀ f a u r) (A : Allowed p f₀ f u r q t k) where
  class_is : class_in (view_of f (by p q t)) (by p q t) ≡ k
  class_is = rw (S.setting.objects t) A.class

  owner_is : user_of f r.owner ≡ user_of f₀ u
  owner_is = rw S.owner S.setting.user

  mac_passes : passes (mac_object k (object_of f₀ t) r (user_of f₀ u)) ≡ true
  unfolding mac_object
  mac_passes = rw (S.setting.untrusted, A.labelled) A.granted

  combined_is : (answers OnObject (view_of f (by p q t)) (by p q t)).combined ≡ mac_object k (object_of f₀ t) r (user_of f₀ u)
  unfolding mac_rule
  combined_is = alone_is OnObject (view_of f (by p q t)) (by p q t) S.setting.alone ∙ rw (class_is, S.process, owner_is, S.setting.objects t)

  accepted_is : accepted f (by p q t) ≡ true
  accepted_is =
      accepted_by f (by p q t) OnObject A.target
      (record {
        known = A.known;
        process = S.small;
        cloned = refl;
        signalled = refl;
        running = rw S.process S.running;
        receiver = refl;
        new_login = refl;
        new_clone = refl;
        user = refl;
        kind = refl;
        alive = rw (S.setting.objects t) A.alive;
        class = rw (class_is, A.there);
        opened = rw class_is A.opened;
        room = refl;
        level = refl;
        answer = rw combined_is mac_passes;
      })

  moved_to : moved (view_of f (by p q t)) (by p q t) ≡ move_by k (label_of f₀ t) r
  unfolding moved ◌and◌
  moved_to = rw (class_is, S.process, owner_is, S.setting.untrusted, S.setting.objects t, S.setting.alone.mac)

  -- the account after the call
  carried_is : carry_by OnObject a (by p q t) ≡ carry k a (by p q t)
  unfolding carry_by
  carried_is = rw (S.setting.kinds t, A.class)

  carry_kinds : (x : ℕ) → (carry k a (by p q t)).kinds x ≡ a.kinds x
  unfolding carry process_gains object_gains
  carry_kinds x =
      by_test (takes q k) (λ h. rw h) (λ h. rw h (by_test (gives q k) (λ e. rw e) (λ e. rw e)))

  effect_is : (o : OpenChange) → open_change q ≡ o
      → effect_by OnObject f (by p q t) ≡ open_by o (put_process f p (move_by k (label_of f₀ t) r)) p t
  unfolding effect_from
  effect_is o e = rw (e, moved_to)

  -- the state with the caller moved
  scene_moved : Scene p f₀ (put_process f p (move_by k (label_of f₀ t) r)) (carry k a (by p q t)) u (move_by k (label_of f₀ t) r)
  scene_moved =
      put_scene p f₀ f a _ u _ S.setting S.small (rw (move_running k (label_of f₀ t) r) S.running) (move_owner k (label_of f₀ t) r ∙ S.owner)
      carry_kinds

-- the state with other opens
scene_opens : (p : ℕ) (f₀ f : Facility) (a : Account) (u : ℕ) (r : Process) (l : List ℕ) → length l ≡ most_opens → Scene p f₀ f a u r
    → Scene p f₀ (put_opens f l) a u r
unfolding put_opens
scene_opens p f₀ f a u r l e S =
    let T = S.setting in
    record {
      small = S.small;
      setting = record {
        shaped = shaped_opens f l e T.shaped;
        alone = T.alone;
        objects = T.objects;
        known = T.known;
        user = T.user;
        untrusted = T.untrusted;
        kinds = T.kinds;
      };
      process = S.process;
      running = S.running;
      owner = S.owner;
    }

-- a request that drops no object
scene_open : (o : OpenChange) (p : ℕ) (f₀ f : Facility) (a : Account) (u : ℕ) (r : Process) (t : ℕ) → drops o ≡ false → Scene p f₀ f a u r
    → Scene p f₀ (open_by o f p t) a u r
unfolding open_by
scene_open Keep p f₀ f a u r t d S = S
scene_open (Add m) p f₀ f a u r t d S = scene_opens p f₀ f a u r _ (simp length-set S.setting.shaped.opens) S
scene_open Close p f₀ f a u r t d S = scene_opens p f₀ f a u r _ (simp length-set S.setting.shaped.opens) S
scene_open CloseAll p f₀ f a u r t d S = clash refl d

-- what is to be reached by a list of calls: b holds the matter of x
pub record Reach (f : Facility) (a : Account) (cs : List Call) (b x : ℕ) : Type 0 where
  pub untrusted : trusted_logins f cs ≡ false
  pub holding : (account a (history f cs)).objects b x ≡ true

-- the facility, and the account, after an accepted call
pub after_is : (f : Facility) (c : Call) (k : Action) → action_of c.request ≡ k → accepted f c ≡ true → after f c ≡ effect_by k f c
unfolding after
after_is f c k e h = rw (h, e)

pub recorded_is : (f : Facility) (a : Account) (c : Call) (k : Action) → action_of c.request ≡ k → accepted f c ≡ true
    → after_entry a (record { call = c; accepted = accepted f c }) ≡ carry_by k a c
unfolding after_entry
recorded_is f a c k e h = rw (h, e)

login_is : (f : Facility) (c : Call) (k : Action) → action_of c.request ≡ k → accepted f c ≡ true → (is_login k and trusted_user f c.extra) ≡ false
    → trusted_login f c ≡ false
unfolding trusted_login ◌and◌
login_is f c k e h u = rw (h, e) u

-- an accepted call, and what is reached after it
pub reach_call : (f : Facility) (a : Account) (c : Call) (k : Action) (cs : List Call) (b x : ℕ) → action_of c.request ≡ k → accepted f c ≡ true
    → (is_login k and trusted_user f c.extra) ≡ false
    → Reach (effect_by k f c) (carry_by k a c) cs b x → Reach f a (c ∷ cs) b x
unfolding trusted_logins account history ◌or◌
reach_call f a c k cs b x e h u R =
    record {
      untrusted = rw (login_is f c k e h u, after_is f c k e h) R.untrusted;
      holding =
          subst₂ (λ (g : Facility) (d : Account). (account d (history g cs)).objects b x ≡ true)
          (sym (after_is f c k e h)) (sym (recorded_is f a c k e h)) R.holding;
    }

-- what calls by process p keep and bring
module _ (p : ℕ) (a : Account) (q t : ℕ) (k : Class) (x : ℕ) where
  pub carry_keeps : a.processes p x ≡ true → (carry k a (by p q t)).processes p x ≡ true
  unfolding carry process_gains object_gains
  carry_keeps h =
      by_test (takes q k) (λ e. rw (e, eq-eqb p p refl) (or_l _ _ h)) (λ e. rw e (by_test (gives q k) (λ d. rw d h) (λ d. rw d h)))

  pub carry_keeps_object : (y : ℕ) → a.objects y x ≡ true → (carry k a (by p q t)).objects y x ≡ true
  unfolding carry process_gains object_gains
  carry_keeps_object y h =
      by_test (takes q k) (λ e. rw e h) (λ e. rw e (by_test (gives q k)
      (λ d. rw d (by_test (eqb t y) (λ w. rw w (or_l _ _ (rw (eqb-true t y w) h))) (λ w. rw w h)))
      (λ d. rw d h)))

  pub carry_takes : takes q k ≡ true → a.objects t x ≡ true → (carry k a (by p q t)).processes p x ≡ true
  unfolding carry process_gains
  carry_takes e h = rw (e, eq-eqb p p refl) (or_r _ _ h)

  pub carry_gives : takes q k ≡ false → gives q k ≡ true → a.processes p x ≡ true → (carry k a (by p q t)).objects t x ≡ true
  unfolding carry object_gains
  carry_gives e d h = rw (e, d, eq-eqb t t refl) (or_r _ _ h)

-- a call by process p on an object, and what is reached after it
module _ (p : ℕ) (f₀ f : Facility) (a : Account) (u : ℕ) (r : Process) (q t : ℕ) (k : Class) (o : OpenChange) (S : Scene p f₀ f a u r)
    (A : Allowed p f₀ f u r q t k)
    (e : open_change q ≡ o) (d : drops o ≡ false) where
  pub reach_target : (cs : List Call) (b x : ℕ)
      → (Scene p f₀ (open_by o (put_process f p (move_by k (label_of f₀ t) r)) p t) (carry k a (by p q t)) u (move_by k (label_of f₀ t) r)
      → Reach (open_by o (put_process f p (move_by k (label_of f₀ t) r)) p t) (carry k a (by p q t)) cs b x)
      → Reach f a (by p q t ∷ cs) b x
  unfolding ◌and◌
  reach_target cs b x R =
      reach_call f a (by p q t) OnObject cs b x A.target (accepted_is p f₀ f a u r q t k S A) refl
      (rw (effect_is p f₀ f a u r q t k S A o e, carried_is p f₀ f a u r q t k S A)
      (R (scene_open o p f₀ _ _ u _ t d (scene_moved p f₀ f a u r q t k S A))))

-- the marks of an object just opened by process p
opened_mark : (p : ℕ) (f : Facility) (s : Process) (t m : ℕ) → Shaped f → p < most_processes → t < most_objects
    → opens_of (open_by (Add m) (put_process f p s) p t) p t ≡ add_modes (opens_of f p t) m
unfolding opens_of open_by put_process
opened_mark p f s t m S hp h = (one_pair (put_process f p s) (shaped_process f p s S)).same p t _ hp h

pub open_to_read : (p : ℕ) (f : Facility) (s : Process) (t m : ℕ) → Shaped f → p < most_processes → t < most_objects → reading m ≡ true
    → open_for (view_of (open_by (Add m) (put_process f p s) p t) (by p 12 t)) (by p 12 t) ≡ true
unfolding open_for
open_to_read p f s t m S hp h e = rw (opened_mark p f s t m S hp h, reading_add (opens_of f p t) m) (or_r _ _ e)

pub open_to_write : (p : ℕ) (f : Facility) (s : Process) (t m : ℕ) → Shaped f → p < most_processes → t < most_objects → writing m ≡ true
    → open_for (view_of (open_by (Add m) (put_process f p s) p t) (by p 19 t)) (by p 19 t) ≡ true
unfolding open_for
open_to_write p f s t m S hp h e = rw (opened_mark p f s t m S hp h, writing_add (opens_of f p t) m) (or_r _ _ e)
