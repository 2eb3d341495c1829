-- Demand 3, second half: proved.
use Rattle.std.specs.Prelude.{ℕ, ◌≤◌, ◌<◌, ◌≡◌, ◌≢◌, true, false, cond, ltb, eqb}
use Rattle.std.proofs.Math.Path.{refl, subst⁻¹}
use Rattle.std.proofs.Common.{subst₂, arith}
use mathlib.Core.List.{List, [], ◌∷◌}
use borrow.Author.Tests.{ltb-true, leb-true, lt-ltb, eq-eqb}
use Rattle.rules.specs.Types.{Call, Process, Facility}
use Rattle.labels.specs.Decisions.{◌and◌, asked}
use Rattle.labels.proofs.Laws.Decisions.{and_i, or_l, or_r, by_test, by_eq}
use Rattle.state.specs.Laws.ReadBack.{process_other}
use Rattle.state.specs.State.{switches_of, object_of, runs, trusted_user, label_of, clearance_of, put_process, fresh_process}
use Rattle.opens.specs.Opens.{reading, writing}
use Rattle.labels.specs.Labels.{Label, lawful, given, ◌⊑◌}
use Rattle.labels.proofs.Laws.Labels.{⊑_refl, eq_same, join_least, bottom_least, below_lawful, lawful_given, lawful_level, lawful_set}
use Rattle.answers.specs.Answers.{passes}
use Rattle.answers.proofs.Laws.Answers.{grant_passes}
use Rattle.rules.specs.Flow.{four_bytes, all_four_bytes, logins_by, MacAlone, Reaches, Carries, ExactlyWhen}
use Rattle.rules.specs.Histories.{trusted_logins, history}
use Rattle.rules.specs.Requests.{Reads, Writes, Both, NoCondition, Keep, Add, is_login, action_of}
use Rattle.rules.specs.Computed.{requests_computed}
use Rattle.rules.specs.Setup.{fresh}
use Rattle.rules.specs.Matter.{Account, start, assign, account}
use Rattle.rules.specs.Modules.{may_read, may_write, may_set, mac_class, move_by, set_level, read_mark_raised}
use Rattle.rules.proofs.Regular.{allowed_kind, allowed_clearance}
use Rattle.rules.proofs.Kept.{kept_run}
use Rattle.rules.proofs.Fresh.{Fresh, fresh_setup}
use Rattle.rules.proofs.Witness.{by, Setting, Scene, Reach, carry_keeps, carry_keeps_object, carry_takes, carry_gives}
use Rattle.rules.proofs.Witness.{reach_target, open_to_read, open_to_write}
use Rattle.rules.proofs.OnlyWhen.{only_when}
use Rattle.rules.proofs.WitnessCalls.{login_as, set_to, signal, kept_scene, other_kept, reach_login, reach_level, reach_signal}

-- process 0 takes the matter of t, by its kind
unfoldable pub read_calls : ℕ → ℕ → List Call → List Call
read_calls kind t rest =
    cond (eqb kind 0) (by 0 13 t ∷ by 0 12 t ∷ rest)
    (cond (eqb kind 1) (by 0 12 t ∷ rest)
    (by 0 8 t ∷ rest))

-- process p gives its matter to t, by its kind
unfoldable pub write_calls : ℕ → ℕ → ℕ → List Call
write_calls p kind t =
    cond (eqb kind 0) (by p 20 t ∷ by p 19 t ∷ [])
    (cond (eqb kind 1) (by p 19 t ∷ [])
    (cond (eqb kind 2) (by p 14 t ∷ by p 19 t ∷ [])
    (by p 11 t ∷ [])))

-- a list whose calls are four bytes each and whose logins are u's
record Plain (u : ℕ) (cs : List Call) : Type 0 where
  four : all_four_bytes cs ≡ true
  logins : logins_by u cs ≡ true

module _ (u : ℕ) where
  plain_none : Plain u []
  unfolding all_four_bytes logins_by
  plain_none = record { four = refl; logins = refl }

  plain_more : (c : Call) (cs : List Call) → four_bytes c ≡ true → asked (is_login (action_of c.request)) (eqb c.extra u) ≡ true → Plain u cs
      → Plain u (c ∷ cs)
  unfolding all_four_bytes logins_by
  plain_more c cs h l P = record { four = and_i _ _ h P.four; logins = and_i _ _ l P.logins }

  -- a call on an object by a process of a small number
  plain_by : (p q t : ℕ) (cs : List Call) → ltb p 256 ≡ true → ltb q 256 ≡ true → is_login (action_of q) ≡ false → ltb t 256 ≡ true → Plain u cs
      → Plain u (by p q t ∷ cs)
  plain_by p q t cs hp hq l ht P = plain_more (by p q t) cs (and_i _ _ hq (and_i _ _ hp (and_i _ _ ht refl))) (rw l) P

  plain_read : (kind t : ℕ) (rest : List Call) → ltb t 256 ≡ true → Plain u rest → Plain u (read_calls kind t rest)
  unfolding read_calls action_of
  plain_read kind t rest h P =
      by_test (eqb kind 0) (λ e. rw e (plain_by 0 13 t _ refl refl refl h (plain_by 0 12 t _ refl refl refl h P)))
      (λ e. by_test (eqb kind 1) (λ d. rw (e, d) (plain_by 0 12 t _ refl refl refl h P)) (λ d. rw (e, d) (plain_by 0 8 t _ refl refl refl h P)))

  plain_write : (p kind t : ℕ) → ltb p 256 ≡ true → ltb t 256 ≡ true → Plain u (write_calls p kind t)
  unfolding write_calls action_of
  plain_write p kind t l h =
      let P = plain_by p 19 t [] l refl refl h plain_none in
      by_test (eqb kind 0) (λ e. rw e (plain_by p 20 t _ l refl refl h P))
      (λ e. by_test (eqb kind 1) (λ d. rw (e, d) P)
      (λ d. by_test (eqb kind 2) (λ g. rw (e, d, g) (plain_by p 14 t _ l refl refl h P))
      (λ g. rw (e, d, g) (plain_by p 11 t [] l refl refl h plain_none))))

-- a list by which y comes to hold the matter of x
record Found (f₀ : Facility) (u x y : ℕ) : Type 0 where
  calls : List Call
  plain : Plain u calls
  reached : Reach f₀ (start f₀) calls y x

module _ (f₀ : Facility) (F : Fresh f₀) (u x y : ℕ) (hx : x < f₀.entered) (hy : y < f₀.entered)
    (hu : u < f₀.users) (tu : trusted_user f₀ u ≡ false) (cx : label_of f₀ x ⊑ clearance_of f₀ u) (cy : label_of f₀ y ⊑ clearance_of f₀ u)
    (below : label_of f₀ x ⊑ label_of f₀ y) where
  -- the labels are lawful, as the clearance is, so they are set
  cleared : lawful (clearance_of f₀ u) ≡ true
  cleared = allowed_clearance _ (F.regular.user u hu)

  lx : lawful (label_of f₀ x) ≡ true
  lx = below_lawful _ _ cx cleared

  ly : lawful (label_of f₀ y) ≡ true
  ly = below_lawful _ _ cy cleared

  gx : given (label_of f₀ x) ≡ true
  gx = lawful_given _ lx

  gy : given (label_of f₀ y) ≡ true
  gy = lawful_given _ ly

  kind_x : (object_of f₀ x).kind ≤ 3
  kind_x = allowed_kind (object_of f₀ x) (F.regular.object x hx)

  kind_y : (object_of f₀ y).kind ≤ 3
  kind_y = allowed_kind (object_of f₀ y) (F.regular.object y hy)

  may_read_law : passes (mac_class Reads (label_of f₀ x) (fresh_process u) (clearance_of f₀ u)) ≡ true
  unfolding mac_class may_read fresh_process
  may_read_law =
      grant_passes _ (or_r _ _ (and_i _ _ refl (and_i _ _ (join_least _ _ _ (bottom_least _) lx) (join_least _ _ _ (bottom_least _) cx))))

  may_write_law : may_write (label_of f₀ y) (move_by Reads (label_of f₀ x) (fresh_process u)) (clearance_of f₀ u) ≡ true
  unfolding move_by may_write fresh_process
  may_write_law =
      or_r _ _ (and_i _ _ refl (and_i _ _ (join_least _ _ _ (bottom_least _) below) (and_i _ _ ly cy)))

  small_x : x < 128
  small_x = omega (arith, F.regular.sound.entered)

  small_y : y < 128
  small_y = omega (arith, F.regular.sound.entered)

  -- after the reading, process 0 holds x
  reach_read : (f : Facility) (a : Account) (rest : List Call) → (object_of f₀ x).kind ≢ 2 → Scene 0 f₀ f a u (fresh_process u) → a.objects x x ≡ true
      → ((g : Facility) (d : Account) → Scene 0 f₀ g d u (move_by Reads (label_of f₀ x) (fresh_process u)) → d.processes 0 x ≡ true → Reach g d rest y x)
      → Reach f a (read_calls (object_of f₀ x).kind x rest) y x
  unfolding read_calls requests_computed mac_class passes move_by reading
  reach_read f a rest nx S self K =
      by_eq (object_of f₀ x).kind 0
      (λ e. rw e
      (reach_target 0 f₀ f a u (fresh_process u) 13 x Reads (Add 1) S
      (record { target = refl; known = refl; alive = F.whole x hx; class = rw e refl; there = refl; opened = refl; labelled = gx; granted = may_read_law })
      refl refl (by 0 12 x ∷ rest) y x
      (λ S1. reach_target 0 f₀ _ _ u _ 12 x NoCondition Keep S1
      (record {
        target = refl;
        known = refl;
        alive = F.whole x hx;
        class = rw e refl;
        there = refl;
        opened = open_to_read 0 f _ x 1 S.setting.shaped S.small small_x refl;
        labelled = gx;
        granted = refl;
      })
      refl refl rest y x
      (λ S2. K _ _ S2 (carry_takes 0 _ 12 x NoCondition x refl (carry_keeps_object 0 a 13 x Reads x x self))))))
      (λ n0. by_eq (object_of f₀ x).kind 1
      (λ e. rw e
      (reach_target 0 f₀ f a u (fresh_process u) 12 x Reads Keep S
      (record { target = refl; known = refl; alive = F.whole x hx; class = rw e refl; there = refl; opened = refl; labelled = gx; granted = may_read_law })
      refl refl rest y x
      (λ S1. K _ _ S1 (carry_takes 0 a 12 x Reads x refl self))))
      (λ n1. let e : (object_of f₀ x).kind ≡ 3 = omega (arith, kind_x) in
      rw e
      (reach_target 0 f₀ f a u (fresh_process u) 8 x Reads Keep S
      (record { target = refl; known = refl; alive = F.whole x hx; class = rw e refl; there = refl; opened = refl; labelled = gx; granted = may_read_law })
      refl refl rest y x
      (λ S1. K _ _ S1 (carry_takes 0 a 8 x Reads x refl self)))))

  -- after the writing, y holds x
  reach_write : (p : ℕ) (f : Facility) (a : Account) (r : Process) → Scene p f₀ f a u r → may_write (label_of f₀ y) r (clearance_of f₀ u) ≡ true
      → a.processes p x ≡ true → Reach f a (write_calls p (object_of f₀ y).kind y) y x
  unfolding write_calls requests_computed mac_class passes writing trusted_logins account history ◌and◌
  reach_write p f a r S may has =
      by_eq (object_of f₀ y).kind 0
      (λ e. rw e
      (reach_target p f₀ f a u r 20 y Writes (Add 2) S
      (record {
        target = refl;
        known = refl;
        alive = F.whole y hy;
        class = rw e refl;
        there = refl;
        opened = refl;
        labelled = gy;
        granted = grant_passes _ may;
      })
      refl refl (by p 19 y ∷ []) y x
      (λ S1. reach_target p f₀ _ _ u _ 19 y NoCondition Keep S1
      (record {
        target = refl;
        known = refl;
        alive = F.whole y hy;
        class = rw e refl;
        there = refl;
        opened = open_to_write p f _ y 2 S.setting.shaped S.small small_y refl;
        labelled = gy;
        granted = refl;
      })
      refl refl [] y x
      (λ S2. record { untrusted = refl; holding = carry_gives p _ 19 y NoCondition x refl refl (carry_keeps p a 20 y Writes x has) }))))
      (λ n0. by_eq (object_of f₀ y).kind 1
      (λ e. rw e
      (reach_target p f₀ f a u r 19 y Writes Keep S
      (record {
        target = refl;
        known = refl;
        alive = F.whole y hy;
        class = rw e refl;
        there = refl;
        opened = refl;
        labelled = gy;
        granted = grant_passes _ may;
      })
      refl refl [] y x
      (λ S1. record { untrusted = refl; holding = carry_gives p a 19 y Writes x refl refl has })))
      (λ n1. by_eq (object_of f₀ y).kind 2
      (λ e. rw e
      (reach_target p f₀ f a u r 14 y Both (Add 3) S
      (record {
        target = refl;
        known = refl;
        alive = F.whole y hy;
        class = rw e refl;
        there = refl;
        opened = refl;
        labelled = gy;
        granted = grant_passes _ may;
      })
      refl refl (by p 19 y ∷ []) y x
      (λ S1. reach_target p f₀ _ _ u _ 19 y NoCondition Keep S1
      (record {
        target = refl;
        known = refl;
        alive = F.whole y hy;
        class = rw e refl;
        there = refl;
        opened = open_to_write p f _ y 3 S.setting.shaped S.small small_y refl;
        labelled = gy;
        granted = refl;
      })
      refl refl [] y x
      (λ S2. record { untrusted = refl; holding = carry_gives p _ 19 y NoCondition x refl refl (carry_keeps p a 14 y Both x has) }))))
      (λ n2. let e : (object_of f₀ y).kind ≡ 3 = omega (arith, kind_y) in
      rw e
      (reach_target p f₀ f a u r 11 y Writes Keep S
      (record {
        target = refl;
        known = refl;
        alive = F.whole y hy;
        class = rw e refl;
        there = refl;
        opened = refl;
        labelled = gy;
        granted = grant_passes _ may;
      })
      refl refl [] y x
      (λ S1. record { untrusted = refl; holding = carry_gives p a 11 y Writes x refl refl has })))))

  module _ (A : MacAlone (switches_of f₀)) where
    at_start : Setting f₀ f₀ (start f₀) u
    unfolding start
    at_start =
        record {
          shaped = F.regular.sound.shaped;
          alone = A;
          objects = λ t. refl;
          known = hu;
          user = refl;
          untrusted = tu;
          kinds = λ t. refl;
        }

    holds_itself : (start f₀).objects x x ≡ true
    unfolding start
    holds_itself = rw (lt-ltb x f₀.entered hx) (eq-eqb x x refl)

    -- x no channel: process 0 reads it and writes y
    direct : List Call
    direct = login_as 0 u ∷ read_calls (object_of f₀ x).kind x (write_calls 0 (object_of f₀ y).kind y)

    reach_direct : (object_of f₀ x).kind ≢ 2 → Reach f₀ (start f₀) direct y x
    unfolding direct assign
    reach_direct nx =
        reach_login 0 f₀ f₀ (start f₀) u at_start (omega arith) (F.stopped 0) _ y x
        (λ S. reach_read _ _ _ nx S holds_itself (λ g d S1 h. reach_write 0 g d _ S1 may_write_law h))

    -- x a channel: process 1 sets its level to x's, process 0 reads x and signals, process 1 sets its level to y's and writes y
    abbrev to_receiver : List Call
    to_receiver = by 0 14 x ∷ by 0 12 x ∷ signal 0 1 ∷ set_to 1 (label_of f₀ y) ∷ write_calls 1 (object_of f₀ y).kind y

    by_signal : List Call
    by_signal = login_as 1 u ∷ set_to 1 (label_of f₀ x) ∷ login_as 0 u ∷ to_receiver

    -- the receiver before the signal, and after it
    abbrev waiting : Process
    waiting = set_level (label_of f₀ x) (fresh_process u)

    may_wait : may_set (label_of f₀ x) (fresh_process u) (clearance_of f₀ u) ≡ true
    unfolding may_set fresh_process
    may_wait = and_i _ _ (bottom_least _) (and_i _ _ lx cx)

    may_rise : may_set (label_of f₀ y) (read_mark_raised waiting) (clearance_of f₀ u) ≡ true
    unfolding may_set fresh_process set_level
    may_rise = and_i _ _ below (and_i _ _ ly cy)

    may_write_there : (l : Label) (r : Process) → may_write l (set_level l r) (clearance_of f₀ u) ≡ true
    unfolding may_write set_level
    may_write_there l r = or_l _ _ (eq_same l l refl)

    may_open : passes (mac_class Both (label_of f₀ x) (fresh_process u) (clearance_of f₀ u)) ≡ true
    unfolding mac_class may_write fresh_process
    may_open = grant_passes _ (or_r _ _ (and_i _ _ refl (and_i _ _ (bottom_least _) (and_i _ _ lx cx))))

    -- from process 0 just logged in and process 1 waiting
    reach_channel : (f : Facility) (a : Account) → (object_of f₀ x).kind ≡ 2 → Scene 0 f₀ f a u (fresh_process u) → Scene 1 f₀ f a u waiting
        → a.objects x x ≡ true → Reach f a to_receiver y x
    unfolding requests_computed passes move_by reading set_level mac_class
    reach_channel f a e S Q own =
        reach_target 0 f₀ f a u (fresh_process u) 14 x Both (Add 3) S
        (record { target = refl; known = refl; alive = F.whole x hx; class = rw e refl; there = refl; opened = refl; labelled = gx; granted = may_open })
        refl refl _ y x
        (λ S1.
        let Q1 = kept_scene 1 f₀ _ _ _ _ u _ Q S1.setting (other_kept (Add 3) f 0 x 1 _ (omega arith)) in
        reach_target 0 f₀ _ _ u _ 12 x NoCondition Keep S1
        (record {
          target = refl;
          known = refl;
          alive = F.whole x hx;
          class = rw e refl;
          there = refl;
          opened = open_to_read 0 f _ x 3 S.setting.shaped S.small small_x refl;
          labelled = gx;
          granted = refl;
        })
        refl refl _ y x
        (λ S2.
        let Q2 = kept_scene 1 f₀ _ _ _ _ u _ Q1 S2.setting (other_kept Keep _ 0 x 1 _ (omega arith)) in
        reach_signal 0 1 f₀ _ _ u _ _ S2 Q2 refl _ y x (carry_takes 0 _ 12 x NoCondition x refl (carry_keeps_object 0 a 14 x Both x x own))
        (λ S3 has. reach_level 1 f₀ _ _ u _ (label_of f₀ y) S3 (lawful_level _ ly) may_rise _ y x
        (λ S4. reach_write 1 _ _ _ S4 (may_write_there (label_of f₀ y) (read_mark_raised waiting)) has))))

    -- while process 1 logs in and sets its level, process 0 does not run
    stopped_still : (r s : Process) → runs (put_process (put_process f₀ 1 r) 1 s) 0 ≡ false
    stopped_still r s =
        rw (process_other (put_process f₀ 1 r) 1 0 s (omega arith), process_other f₀ 1 0 r (omega arith)) (F.stopped 0)

    reach_by_signal : (object_of f₀ x).kind ≡ 2 → Reach f₀ (start f₀) by_signal y x
    unfolding by_signal assign
    reach_by_signal e =
        reach_login 1 f₀ f₀ (start f₀) u at_start (omega arith) (F.stopped 1) _ y x
        (λ S1. reach_level 1 f₀ _ _ u _ (label_of f₀ x) S1 (lawful_level _ lx) may_wait _ y x
        (λ S2. reach_login 0 f₀ _ _ u S2.setting (omega arith) (stopped_still _ _) _ y x
        (λ S3.
        let Q3 = kept_scene 1 f₀ _ _ _ _ u _ S2 S3.setting (process_other _ 0 1 (fresh_process u) (omega arith)) in
        reach_channel _ _ e S3 Q3 holds_itself)))

    byte_u : ltb u 256 ≡ true
    byte_u = lt-ltb u 256 (omega (arith, F.regular.sound.users))

    byte_x : ltb x 256 ≡ true
    byte_x = lt-ltb x 256 (omega (arith, small_x))

    byte_y : ltb y 256 ≡ true
    byte_y = lt-ltb y 256 (omega (arith, small_y))

    plain_login : (p : ℕ) (cs : List Call) → ltb p 256 ≡ true → Plain u cs → Plain u (login_as p u ∷ cs)
    unfolding action_of
    plain_login p cs h P = plain_more u (login_as p u) cs (and_i _ _ refl (and_i _ _ h (and_i _ _ refl byte_u))) (eq-eqb u u refl) P

    plain_level : (p : ℕ) (l : Label) (cs : List Call) → ltb p 256 ≡ true → lawful l ≡ true → Plain u cs → Plain u (set_to p l ∷ cs)
    unfolding action_of
    plain_level p l cs h k P =
        let b : l.level ≤ 15 = leb-true _ _ (lawful_level l k) in
        let d : l.set ≤ 255 = leb-true _ _ (lawful_set l k) in
        plain_more u (set_to p l) cs
        (and_i _ _ refl (and_i _ _ h (and_i _ _ (lt-ltb l.set 256 (omega arith)) (lt-ltb l.level 256 (omega arith))))) refl P

    plain_direct : Plain u direct
    unfolding direct
    plain_direct = plain_login 0 _ refl (plain_read u _ x _ byte_x (plain_write u 0 _ y refl byte_y))

    plain_by_signal : Plain u by_signal
    unfolding by_signal action_of ◌and◌
    plain_by_signal =
        plain_login 1 _ refl (plain_level 1 (label_of f₀ x) _ refl lx (plain_login 0 _ refl
        (plain_by u 0 14 x _ refl refl refl byte_x (plain_by u 0 12 x _ refl refl refl byte_x
        (plain_more u (signal 0 1) _ refl refl (plain_level 1 (label_of f₀ y) _ refl ly (plain_write u 1 _ y refl byte_y)))))))

    -- the list by the kind of x
    found : Found f₀ u x y
    found =
        by_eq (object_of f₀ x).kind 2
        (λ e. record { calls = by_signal; plain = plain_by_signal; reached = reach_by_signal e })
        (λ n. record { calls = direct; plain = plain_direct; reached = reach_direct n })

pub exactly_when : ExactlyWhen
exactly_when s A a b ha hb u C = ((rises, λ h. reached (falls h)), λ W. falls (rises W))
  where
    rises : Reaches s a b → label_of (fresh s) a ⊑ label_of (fresh s) b
    rises W =
        by_eq b a
        (λ e. subst⁻¹ (λ (k : ℕ). label_of (fresh s) a ⊑ label_of (fresh s) k) e (⊑_refl _))
        (λ n. subst₂ ◌⊑◌ (kept_run W.calls (fresh s) a ha).label (kept_run W.calls (fresh s) b hb).label
        (only_when s A.mac W.calls W.untrusted a b W.holding n).above)

    falls : label_of (fresh s) a ⊑ label_of (fresh s) b → Carries s u a b
    falls h =
        let W = found (fresh s) (fresh_setup s) u a b ha hb (ltb-true _ _ C.user) C.untrusted C.first C.second h A in
        record {
          calls = W.calls;
          four = W.plain.four;
          logins = W.plain.logins;
          untrusted = W.reached.untrusted;
          holding = W.reached.holding;
        }

    reached : Carries s u a b → Reaches s a b
    reached W = record { calls = W.calls; untrusted = W.untrusted; holding = W.holding }
