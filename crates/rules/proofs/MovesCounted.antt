-- Ticket 5: each process that runs carries the number of the moves in its history, and these are at most the rank of its owner's clearance plus 1.
use Rattle.std.specs.Prelude.{ℕ, ◌+◌, ◌≤◌, min, ◌≡◌, ◌≢◌, Bool, true, false, not, List, [], ◌∷◌, eqb}
use Rattle.std.proofs.Math.Path.{refl, subst⁻¹}
use Rattle.std.proofs.Common.{sym, ◌∙◌, ap, subst, arith}
use borrow.Author.Tests.{ltb-true, eq-eqb, ne_eqb, not-true}
use Rattle.rules.specs.Types.{Call, Process, User, Facility}
use Rattle.labels.specs.Decisions.{◌and◌, ◌or◌, on}
use Rattle.labels.proofs.Laws.Decisions.{and_l, and_r, clash, by_test}
use Rattle.labels.specs.Labels.{Label, same, lawful}
use Rattle.labels.proofs.Laws.Labels.{eq_same, rank_lawful}
use Rattle.state.specs.State.{Users, users_in, user_in, user_of, process_of, runs, clearance_of, most_moves, put_process, put_opens, put_object, drop_object}
use Rattle.state.specs.State.{put_refusals, fresh_process, no_process}
use Rattle.state.specs.Laws.ReadBack.{one_more_law}
use Rattle.answers.specs.Answers.{passes}
use Rattle.answers.proofs.Laws.Answers.{passes_grant}
use Rattle.rules.specs.Effects.{effect_by}
use Rattle.rules.specs.Calls.{owner_in, accepted, after}
use Rattle.rules.specs.Requests.{Action, Login, Clone, SendSignal, SetLevel, Terminate, Create, OnObject, Unknown, Class, Absent, Reads, Writes, Both}
use Rattle.rules.specs.Requests.{NoCondition, action_of, is_login, is_clone, in_directory, needs_object, observes, alters}
use Rattle.rules.specs.Modules.{View, view_of, class_in, wanted, mac_object, mac_rule, moves_to, move_by, set_level, moved, levelled, signalled}
use Rattle.rules.specs.Setup.{fresh}
use Rattle.rules.specs.Questions.{number}
use Rattle.rules.specs.Histories.{run, Step, past, is_start, is_cloning, owner_after, current_of, of_class, is_move, moves_of, moves_bound}
use Rattle.rules.specs.Promises.{Moves}
use Rattle.rules.proofs.Passed.{Passed, passed, mac_passed, accepted_zero}
use Rattle.rules.proofs.Processes.{Each, put, New, unput_login, unput_clone, unput_caller, each_effect, process_put, each_refused}
use Rattle.rules.proofs.Leaves.{after_leaves}
use Rattle.rules.proofs.Moves.{object_granted, moved_is}
use Rattle.rules.proofs.Regular.{Regular, regular_after, allowed_clearance}
use Rattle.rules.proofs.Fresh.{fresh_setup}
use Rattle.rules.proofs.Witness.{after_is}
use Rattle.rules.proofs.Owners.{last, begun, branched, no_start, no_cloning, moved_owner, levelled_owner, signalled_owner, owned_run}
use Rattle.rules.proofs.Settled.{Settled, more, changes, settled_move, settled_level, settled_raised, settled_fresh}

-- a process r of user u after n moves: none with MAC off or a trusted owner
record Counted (mac : ℕ) (u : User) (n : ℕ) (r : Process) : Type 0 where
  counter : r.moves ≡ min n most_moves
  cleared : lawful u.clearance ≡ true
  judged : on mac ≡ true → on u.trusted ≡ false → Settled n u.clearance r
  off : on mac ≡ false → n ≡ 0
  trusted : on u.trusted ≡ true → n ≡ 0

counted_most : (mac : ℕ) (u : User) (n : ℕ) (r : Process) → Counted mac u n r → n ≤ moves_bound u.clearance
counted_most mac u n r C =
    by_test (on mac)
    (λ m. by_test (on u.trusted) (λ t. let e = C.trusted t in omega arith) (λ t. (C.judged m t).most))
    (λ m. let e = C.off m in omega arith)

-- so it is far from the counter's stop
counted_exact : (mac : ℕ) (u : User) (n : ℕ) (r : Process) → Counted mac u n r → r.moves ≡ n
counted_exact mac u n r C =
    let a = counted_most mac u n r C in
    let b = rank_lawful u.clearance C.cleared in
    C.counter ∙ omega arith

-- the counter of a process whose level becomes l by R, W or B
counter_to : (l : Label) (r : Process) (n : ℕ) → r.moves ≡ min n most_moves → moves_to l r ≡ min (more (not (same l r.current)) n) most_moves
counter_to l r n h =
    by_test (same l r.current) (λ e. rw e (h ∙ omega arith)) (λ e. rw e (one_more_law most_moves r.moves n h))

counter_move : (k : Class) (l : Label) (r : Process) (n : ℕ) → r.moves ≡ min n most_moves
    → (move_by k l r).moves ≡ min (more (changes k l r) n) most_moves
unfolding move_by ◌and◌ ◌or◌
counter_move Absent l r n h = h ∙ omega arith
counter_move Reads l r n h = counter_to _ r n h
counter_move Writes l r n h = counter_to _ r n h
counter_move Both l r n h = counter_to _ r n h
counter_move NoCondition l r n h = h ∙ omega arith

-- whether an accepted call on an object changes its caller's level
abbrev moved_by : View → Call → Bool
moved_by v c = (observes (class_in v c) or alters (class_in v c)) and not (same (moved v c).current v.caller.current)

-- with MAC off, or a trusted owner, the caller is as it was, and so its level
at_rest : (v : View) (c : Call) → (on v.switches.mac and not (on v.owner.trusted)) ≡ false → moved v c ≡ v.caller
unfolding moved
at_rest v c h = rw h

unchanged : (v : View) (c : Call) → moved v c ≡ v.caller → moved_by v c ≡ false
unfolding ◌and◌
unchanged v c e =
    rw (eq_same (moved v c).current v.caller.current (ap (λ (r : Process). r.current) e))
    (by_test (observes (class_in v c) or alters (class_in v c)) (λ k. rw k) (λ k. rw k))

counted_moved : (v : View) (c : Call) (n : ℕ)
    → (on v.switches.mac ≡ true → passes (mac_object (class_in v c) v.target.object v.caller v.owner) ≡ true)
    → Counted v.switches.mac v.owner n v.caller → Counted v.switches.mac v.owner (more (moved_by v c) n) (moved v c)
counted_moved v c n p C =
    by_test (on v.switches.mac and not (on v.owner.trusted))
    (λ h. judged_moved (and_l _ _ h) (not-true _ (and_r _ _ h)))
    (λ h. still (at_rest v c h))
  where
    still : moved v c ≡ v.caller → Counted v.switches.mac v.owner (more (moved_by v c) n) (moved v c)
    still e =
        let z : 0 + n ≡ n = omega arith in
        subst⁻¹ (λ (b : Bool). Counted v.switches.mac v.owner (more b n) (moved v c)) (unchanged v c e)
        (subst⁻¹ (λ (r : Process). Counted v.switches.mac v.owner (0 + n) r) e (rw z C))

    judged_moved : on v.switches.mac ≡ true → on v.owner.trusted ≡ false
        → Counted v.switches.mac v.owner (more (moved_by v c) n) (moved v c)
    judged_moved m t =
        let (g, q) = object_granted (class_in v c) v.target.object v.caller v.owner t (p m) in
        rw (moved_is v c m t) (record {
          counter = counter_move (class_in v c) v.target.object.label v.caller n C.counter;
          cleared = C.cleared;
          judged = λ a b. settled_move (class_in v c) n v.owner.clearance v.target.object.label v.caller q (C.judged m t);
          off = λ a. clash m a;
          trusted = λ a. clash a t;
        })

counted_level : (v : View) (c : Call) (n : ℕ) → (on v.switches.mac ≡ true → passes (mac_rule SetLevel v c) ≡ true)
    → Counted v.switches.mac v.owner n v.caller → Counted v.switches.mac v.owner n (levelled v c)
unfolding levelled mac_rule set_level
counted_level v c n p C =
    by_test (on v.switches.mac)
    (λ m. rw m (record {
      counter = C.counter;
      cleared = C.cleared;
      judged = λ a t. settled_level n v.owner.clearance (wanted c) v.caller (passes_grant _ (p m)) (C.judged m t);
      off = C.off;
      trusted = C.trusted;
    }))
    (λ m. rw m C)

counted_signal : (v : View) (n : ℕ) → Counted v.switches.mac v.target.owner n v.target.receiver
    → Counted v.switches.mac v.target.owner n (signalled v)
unfolding signalled
counted_signal v n C =
    by_test (on v.switches.mac and not (on v.target.owner.trusted))
    (λ e. rw e (record {
      counter = C.counter;
      cleared = C.cleared;
      judged = λ m t. settled_raised n v.target.owner.clearance v.target.receiver (C.judged m t);
      off = C.off;
      trusted = C.trusted;
    }))
    (λ e. rw e C)

-- MAC's switch and the users, which no call changes
abbrev setting : Facility → ℕ × Users
setting f = (f.mac, users_in f)

-- process p, as r, after the history xs
abbrev CountedAt : ℕ × Users → List Step → ℕ → Process → Type 0
CountedAt x xs p r = on r.running ≡ true → Counted x.0 (user_in x.1 r.owner) (moves_of xs p) r

abbrev AllCounted : ℕ × Users → List Step → Facility → Type 0
AllCounted x xs f = Each (CountedAt x xs) f

-- with another owner that is the same, and after as many moves
recounted : (x : ℕ × Users) (xs : List Step) (p o n : ℕ) (r : Process) → r.owner ≡ o → moves_of xs p ≡ n → Counted x.0 (user_in x.1 o) n r
    → CountedAt x xs p r
recounted x xs p o n r e m C k =
    subst⁻¹ (λ (u : ℕ). Counted x.0 (user_in x.1 u) (moves_of xs p) r) e (subst⁻¹ (λ (i : ℕ). Counted x.0 (user_in x.1 o) i r) m C)

-- The moves of a history that is one call longer.
module _ (f : Facility) (c : Call) (xs : List Step) where
  moves_start : is_start (last f c) c.process ≡ true → moves_of (last f c ∷ xs) c.process ≡ 0
  unfolding moves_of
  moves_start a = rw a

  moves_cloned : (is_start (last f c) c.target ≡ false) × (is_cloning (last f c) c.target ≡ true)
      → moves_of (last f c ∷ xs) c.target ≡ moves_of xs c.process
  unfolding moves_of
  moves_cloned a = rw (a.0, a.1)

  moves_else : (q : ℕ) → is_start (last f c) q ≡ false → is_cloning (last f c) q ≡ false → is_move (last f c) q ≡ false
      → moves_of (last f c ∷ xs) q ≡ moves_of xs q
  unfolding moves_of
  moves_else q a b d = rw (a, b, d) (omega arith)

  moves_refused : accepted f c ≡ false → (q : ℕ) → moves_of (last f c ∷ xs) q ≡ moves_of xs q
  unfolding is_start is_cloning is_move ◌and◌
  moves_refused h q = moves_else q (rw h) (rw h) (rw h)

  no_move : (q : ℕ) → (needs_object (action_of c.request) c.extra ≡ true → q ≢ c.process) → is_move (last f c) q ≡ false
  unfolding is_move of_class ◌and◌
  no_move q w =
      by_test (accepted f c)
      (λ h. by_test (eqb c.process q)
      (λ e. by_test (needs_object (action_of c.request) c.extra)
      (λ n. clash e (ne_eqb c.process q (λ z. w n (sym z)))) (λ n. rw (h, e, n)))
      (λ e. rw (h, e)))
      (λ h. rw h)

  -- the caller of an accepted request on an object
  moves_caller : (k : Action) → action_of c.request ≡ k → is_login k ≡ false → is_clone k ≡ false → needs_object k c.extra ≡ true
      → accepted f c ≡ true → current_of (after f c) c.process ≡ (moved (view_of f c) c).current
      → moves_of (last f c ∷ xs) c.process ≡ more (moved_by (view_of f c) c) (moves_of xs c.process)
  unfolding moves_of is_move of_class ◌and◌
  moves_caller k e l d n h m =
      rw (
        no_start f c c.process (λ z. clash z (rw e l)),
        no_cloning f c c.process (λ z. clash z (rw e d)),
        h,
        eq-eqb c.process c.process refl,
        e,
        n,
        m,
      )

  module _ (R : Regular f) (G : AllCounted (setting f) xs f) (h : accepted f c ≡ true) where
    -- a request that is none on an object moves nobody
    moves_still : (k : Action) → action_of c.request ≡ k → is_login k ≡ false → is_clone k ≡ false → needs_object k c.extra ≡ false
        → (q : ℕ) → moves_of (last f c ∷ xs) q ≡ moves_of xs q
    moves_still k e l d n q =
        moves_else q (no_start f c q (λ z. clash z (rw e l))) (no_cloning f c q (λ z. clash z (rw e d))) (no_move q (λ z. clash z (rw e n)))

    counted_caller : (k : Action) → action_of c.request ≡ k → is_login k ≡ false → is_clone k ≡ false → needs_object k c.extra ≡ true
        → runs f c.process ≡ true → process_of (effect_by k f c) c.process ≡ moved (view_of f c) c
        → (on f.mac ≡ true → passes (mac_object (class_in (view_of f c) c) (view_of f c).target.object (view_of f c).caller (view_of f c).owner) ≡ true)
        → CountedAt (setting f) (last f c ∷ xs) c.process (moved (view_of f c) c)
    counted_caller k e l d n r put p =
        let m = ap (λ (g : Facility). current_of g c.process) (after_is f c k e h) ∙ ap (λ (q : Process). q.current) put in
        recounted (setting f) (last f c ∷ xs) c.process (process_of f c.process).owner (more (moved_by (view_of f c) c) (moves_of xs c.process))
        (moved (view_of f c) c) (moved_owner (view_of f c) c).owner (moves_caller k e l d n h m)
        (counted_moved (view_of f c) c (moves_of xs c.process) p (G c.process r))

    new_counted : (k : Action) → action_of c.request ≡ k → Passed k (view_of f c) c
        → New (CountedAt (setting f) (last f c ∷ xs)) (put k (view_of f c) c)
    unfolding mac_rule fresh_process no_process
    new_counted Login e q =
        recounted (setting f) (last f c ∷ xs) c.process c.extra 0 (fresh_process c.extra) refl (moves_start (begun f c h (rw e)))
        (record {
          counter = refl;
          cleared = allowed_clearance (user_of f c.extra) (R.user c.extra (ltb-true _ _ q.user));
          judged = λ m t. settled_fresh c.extra _;
          off = λ m. refl;
          trusted = λ t. refl;
        })
    new_counted Clone e q =
        λ r. subst⁻¹ (λ (n : ℕ). Counted f.mac (user_of f (process_of f c.process).owner) n (process_of f c.process))
        (moves_cloned (branched f c h (rw e))) (G c.process r)
    new_counted SendSignal e q =
        recounted (setting f) (last f c ∷ xs) c.target _ _ _ (signalled_owner (view_of f c)).owner (moves_still SendSignal e refl refl refl c.target)
        (counted_signal (view_of f c) (moves_of xs c.target) (G c.target q.receiver))
    new_counted SetLevel e q =
        recounted (setting f) (last f c ∷ xs) c.process _ _ _ (levelled_owner (view_of f c) c).owner (moves_still SetLevel e refl refl refl c.process)
        (counted_level (view_of f c) c (moves_of xs c.process) (λ m. mac_passed SetLevel (view_of f c) c q m) (G c.process q.running))
    new_counted Terminate e q = λ r. clash r refl
    new_counted Create e q =
        by_test (in_directory c.extra)
        (λ d. rw d (counted_caller Create e refl refl d q.running (process_put Create f c _ _ R.sound.shaped q (rw d))
        (λ m. rw d at (mac_passed Create (view_of f c) c q m))))
        (λ d. rw d tt)
    new_counted OnObject e q =
        counted_caller OnObject e refl refl refl q.running (process_put OnObject f c _ _ R.sound.shaped q refl)
        (λ m. mac_passed OnObject (view_of f c) c q m)
    new_counted Unknown e q = tt

    counted_accepted : AllCounted (setting f) (last f c ∷ xs) (effect_by (action_of c.request) f c)
    counted_accepted =
        let k = action_of c.request in
        let q = passed k (view_of f c) c (accepted_zero f c h) in
        each_effect (CountedAt (setting f) (last f c ∷ xs)) k f c R.sound.shaped q (new_counted k refl q)
        (λ p u r. subst⁻¹ (λ (n : ℕ). Counted f.mac (user_of f (process_of f p).owner) n (process_of f p))
        (moves_else p (no_start f c p (unput_login k (view_of f c) c p u)) (no_cloning f c p (unput_clone k (view_of f c) c p u))
        (no_move p (unput_caller k (view_of f c) c p u))) (G p r))

-- no call changes the setting
setting_after : (f : Facility) (c : Call) → setting (after f c) ≡ setting f
unfolding put_process put_opens put_object drop_object put_refusals
setting_after f c =
    after_leaves setting (record { process = λ g p r. refl; opens = λ g l. refl; object = λ g o. refl; dropped = λ g t. refl }) (λ g l. refl) f c

counted_after : (f : Facility) (c : Call) (xs : List Step) → Regular f → AllCounted (setting f) xs f
    → AllCounted (setting f) (last f c ∷ xs) (after f c)
unfolding after
counted_after f c xs R G =
    by_test (accepted f c)
    (λ h. rw h (counted_accepted f c xs R G h))
    (λ h. rw h (each_refused (CountedAt (setting f) (last f c ∷ xs)) f (owner_in f c) (number f c)
    (λ p r. subst⁻¹ (λ (n : ℕ). Counted f.mac (user_of f (process_of f p).owner) n (process_of f p)) (moves_refused f c xs h p) (G p r))))

-- a list of calls
run_counted : (cs : List Call) (f : Facility) (xs : List Step) → Regular f → AllCounted (setting f) xs f
    → AllCounted (setting f) (past f cs xs) (run f cs)
unfolding run past
run_counted [] f xs R G = G
run_counted (c ∷ cs) f xs R G =
    let A = subst⁻¹ (λ (s : ℕ × Users). AllCounted s (last f c ∷ xs) (after f c)) (setting_after f c) (counted_after f c xs R G) in
    subst (λ (s : ℕ × Users). AllCounted s (past (after f c) cs (last f c ∷ xs)) (run (after f c) cs)) (setting_after f c)
    (run_counted cs (after f c) (last f c ∷ xs) (regular_after f c R) A)

module _ (s : List ℕ) (cs : List Call) (p : ℕ) (r : runs (run (fresh s) cs) p ≡ true) where
  at_end : Counted (fresh s).mac (user_of (fresh s) (process_of (run (fresh s) cs) p).owner) (moves_of (past (fresh s) cs []) p)
      (process_of (run (fresh s) cs) p)
  at_end = run_counted cs (fresh s) [] (fresh_setup s).regular (λ q u. clash u ((fresh_setup s).stopped q)) p r

  carried : (process_of (run (fresh s) cs) p).moves ≡ moves_of (past (fresh s) cs []) p
  carried = counted_exact _ _ _ _ at_end

  bounded_moves : moves_of (past (fresh s) cs []) p ≤ moves_bound (clearance_of (fresh s) (owner_after (past (fresh s) cs []) p))
  bounded_moves =
      subst (λ (u : ℕ). moves_of (past (fresh s) cs []) p ≤ moves_bound (clearance_of (fresh s) u)) (owned_run s cs p r).1
      (counted_most _ _ _ _ at_end)

pub moves : Moves
moves =
    record {
      counted = carried;
      bounded = bounded_moves;
      most = λ s cs p r. let e = carried s cs p r in let b = bounded_moves s cs p r in omega arith;
    }
