-- MAC's moves of a process: what a granted call of each class does to its marks. By the laws of labels alone.
use Rattle.std.specs.Prelude.{ℕ, ◌<◌, ◌≡◌, refl, Bool, true, false}
use Rattle.rules.specs.Types.{Call, Process, User, Object, Facility}
use Rattle.labels.specs.Decisions.{◌and◌, on}
use Rattle.labels.proofs.Laws.Decisions.{and_l, and_r, or_cases, clash, by_test}
use Rattle.opens.specs.Opens.{most_processes}
use Rattle.state.specs.State.{process_of, put_process}
use Rattle.labels.specs.Labels.{Label, given, ◌⊑◌}
use Rattle.labels.proofs.Laws.Labels.{⊑_refl, ⊑_trans, same_eq, join_l, join_r, join_least, meet_l, meet_r, meet_greatest}
use Rattle.answers.specs.Answers.{passes}
use Rattle.answers.proofs.Laws.Answers.{passes_grant}
use Rattle.rules.specs.Requests.{SendSignal, Class, Absent, Reads, Writes, Both, NoCondition, observes, alters}
use Rattle.rules.specs.Matter.{Set, Account}
use Rattle.rules.specs.Modules.{View, class_in, wanted, may_read, may_write, may_set, mac_class, mac_object, mac_signal, mac_rule, move_by, set_level}
use Rattle.rules.specs.Modules.{moved, levelled}
use Rattle.rules.specs.Modules.{signalled}
use Rattle.rules.proofs.Invariant.{Ordered, Knows, Fits, Inv, inv_process}

-- a process after a move: the marks only close in
pub record Moved (r s : Process) : Type 0 where
  pub running : s.running ≡ r.running
  pub owner : s.owner ≡ r.owner
  pub up : r.readmark ⊑ s.readmark
  pub down : s.writemark ⊑ r.writemark
  pub ordered : Ordered s

-- what a call of class k on an object with label l has made of the marks
pub record Closed (k : Class) (l : Label) (s : Process) : Type 0 where
  pub reads : observes k ≡ true → l ⊑ s.readmark
  pub writes : alters k ≡ true → s.writemark ⊑ l

pub unmoved : (r : Process) → Ordered r → Moved r r
unmoved r o = record { running = refl; owner = refl; up = ⊑_refl _; down = ⊑_refl _; ordered = o }

-- a granted read lies under the write mark
read_under : (l : Label) (r : Process) (clr : Label) → Ordered r → may_read l r clr ≡ true → l ⊑ r.writemark
unfolding may_read
read_under l r clr o h =
    or_cases _ _ h (λ e. ⊑_trans _ _ _ e o.high) (λ e. ⊑_trans _ _ _ (join_r _ _) (and_l _ _ (and_r _ _ e)))

-- a granted write lies between the marks
write_over : (l : Label) (r : Process) (clr : Label) → Ordered r → may_write l r clr ≡ true → r.readmark ⊑ l
unfolding may_write
write_over l r clr o h =
    or_cases _ _ h (λ e. rw (same_eq _ _ e) o.low) (λ e. and_l _ _ (and_r _ _ e))

write_under : (l : Label) (r : Process) (clr : Label) → Ordered r → may_write l r clr ≡ true → l ⊑ r.writemark
unfolding may_write
write_under l r clr o h =
    or_cases _ _ h (λ e. rw (same_eq _ _ e) o.high) (λ e. and_l _ _ (and_r _ _ (and_r _ _ e)))

pub move_moved : (k : Class) (l : Label) (r : Process) (clr : Label) → Ordered r → passes (mac_class k l r clr) ≡ true → Moved r (move_by k l r)
unfolding mac_class move_by passes
move_moved Absent l r clr o h = clash h refl
move_moved Reads l r clr o h =
    let u = read_under l r clr o (passes_grant _ h) in
    record {
      running = refl;
      owner = refl;
      up = join_l _ _;
      down = ⊑_refl _;
      ordered = record {
        low = join_least _ _ _ (⊑_trans _ _ _ o.low (join_l _ _)) (join_r _ _);
        high = join_least _ _ _ o.high u;
      };
    }
move_moved Writes l r clr o h =
    let g = passes_grant _ h in
    record {
      running = refl;
      owner = refl;
      up = ⊑_refl _;
      down = meet_l _ _;
      ordered = record {
        low = write_over l r clr o g;
        high = meet_greatest _ _ _ (write_under l r clr o g) (⊑_refl _);
      };
    }
move_moved Both l r clr o h =
    let g = passes_grant _ h in
    record {
      running = refl;
      owner = refl;
      up = write_over l r clr o g;
      down = write_under l r clr o g;
      ordered = record { low = ⊑_refl _; high = ⊑_refl _ };
    }
move_moved NoCondition l r clr o h = unmoved r o

pub move_closed : (k : Class) (l : Label) (r : Process) → Closed k l (move_by k l r)
unfolding move_by
move_closed Absent l r = record { reads = λ h. clash h refl; writes = λ h. clash h refl }
move_closed Reads l r = record { reads = λ h. join_r _ _; writes = λ h. clash h refl }
move_closed Writes l r = record { reads = λ h. clash h refl; writes = λ h. meet_r _ _ }
move_closed Both l r = record { reads = λ h. ⊑_refl _; writes = λ h. ⊑_refl _ }
move_closed NoCondition l r = record { reads = λ h. clash h refl; writes = λ h. clash h refl }

-- after a granted W or B the read mark is at most the object's label
pub move_over : (k : Class) (l : Label) (r : Process) (clr : Label) → Ordered r → passes (mac_class k l r clr) ≡ true → alters k ≡ true
    → (move_by k l r).readmark ⊑ l
unfolding mac_class move_by
move_over Absent l r clr o h w = clash w refl
move_over Reads l r clr o h w = clash w refl
move_over Writes l r clr o h w = write_over l r clr o (passes_grant _ h)
move_over Both l r clr o h w = ⊑_refl _
move_over NoCondition l r clr o h w = clash w refl

-- a process that fits still does after a move
pub fits_moved : (n : ℕ) (ls : ℕ → Label) (tr : ℕ → Bool) (os : ℕ → ℕ) (m : Set) (r s : Process) → Fits n ls tr os m r → Moved r s → Fits n ls tr os m s
fits_moved n ls tr os m r s F M =
    record {
      owner = λ u. rw M.owner (F.owner (run u));
      ordered = λ u. M.ordered;
      readable = λ t b o. let (u, k) = F.readable t b o in
          (rw M.running u, more t k);
      writable = λ t b o. let (u, k) = F.writable t b o in
          (rw M.running u, record { inside = k.inside; labelled = k.labelled; above = ⊑_trans _ _ _ M.down k.above });
      knows = λ c u h. more c (F.knows c (run u) h);
    }
  where
    run : on s.running ≡ true → on r.running ≡ true
    run u = rw M.running at u

    more : (c : ℕ) → Knows n (ls c) c r → Knows n (ls c) c s
    more c k = record { inside = k.inside; labelled = k.labelled; below = ⊑_trans _ _ _ k.below M.up }

pub inv_move : (f : Facility) (a : Account) (p : ℕ) (s : Process) → Inv f a → p < most_processes → Moved (process_of f p) s → Inv (put_process f p s) a
inv_move f a p s I h M = inv_process f a p s I h (fits_moved _ _ _ _ _ _ _ (I.process p) M)

-- a granted call on an object: its label is set, and MAC's rule for its class passed
pub object_granted : (k : Class) (o : Object) (r : Process) (u : User) → on u.trusted ≡ false → passes (mac_object k o r u) ≡ true
    → (given o.label ≡ true) × (passes (mac_class k o.label r u.clearance) ≡ true)
unfolding mac_object passes
object_granted k o r u t h = by_test (given o.label) (λ g. (g, rw (g, t) at h)) (λ g. clash (rw g at h) refl)

-- the caller's move, where MAC is on and its owner untrusted
pub moved_is : (v : View) (c : Call) → on v.switches.mac ≡ true → on v.owner.trusted ≡ false
    → moved v c ≡ move_by (class_in v c) v.target.object.label v.caller
unfolding moved ◌and◌
moved_is v c m u = rw (m, u)

-- a signal is a move of its receiver, after which its read mark is its current level
pub signalled_moved : (v : View) → on v.switches.mac ≡ true → on v.target.owner.trusted ≡ false → Ordered v.target.receiver
    → Moved v.target.receiver (signalled v)
unfolding signalled ◌and◌
signalled_moved v m u o =
    rw (m, u) (record { running = refl; owner = refl; up = o.low; down = ⊑_refl _; ordered = record { low = ⊑_refl _; high = o.high } })

pub signalled_mark : (v : View) → on v.switches.mac ≡ true → on v.target.owner.trusted ≡ false
    → (signalled v).readmark ≡ v.target.receiver.current
unfolding signalled ◌and◌
signalled_mark v m u = rw (m, u)

-- a granted signal of an untrusted sender: both current labels are equal
pub signal_level : (v : View) (c : Call) → on v.owner.trusted ≡ false → passes (mac_rule SendSignal v c) ≡ true
    → v.caller.current ≡ v.target.receiver.current
unfolding mac_rule mac_signal
signal_level v c u h = or_cases _ _ (passes_grant _ h) (λ e. clash e u) (λ e. same_eq _ _ e)

-- set-level is a move
pub levelled_moved : (v : View) (c : Call) → on v.switches.mac ≡ true
    → may_set (wanted c) v.caller v.owner.clearance ≡ true → Moved v.caller (levelled v c)
unfolding levelled set_level may_set
levelled_moved v c m h =
    rw m (record {
      running = refl;
      owner = refl;
      up = ⊑_refl _;
      down = ⊑_refl _;
      ordered = record { low = and_l _ _ h; high = and_l _ _ (and_r _ _ h) };
    })
