-- With what is told out of the way, MAC's rules grant.
use Rattle.std.specs.Prelude.{ℕ, ◌≡◌, true, not, cond}
use Rattle.labels.specs.declared.Label.{Label}
use Rattle.labels.specs.Decisions.{◌and◌, on}
use Rattle.labels.specs.Labels.{leq, same, join, meet}
use Rattle.labels.proofs.Laws.Decisions.{and_i, by_test, or_l, or_r}
use Rattle.labels.proofs.Laws.Labels.{join_r, meet_r}
use Rattle.state.specs.declared.Process.{Process}
use Rattle.rules.specs.Modules.{may_read, may_write, may_set}
use Rattle.reasons.specs.Reasons.{unless, read_failed, write_failed, set_failed}
use Rattle.reasons.specs.Explained.{Enough, eased, eased_clearance}

over : (l x : Label) → leq l (cond (not (leq l x)) (join x l) x) ≡ true
over l x = by_test (leq l x) (λ e. rw e e) (λ e. rw e (join_r x l))

under : (l x : Label) → leq (cond (not (leq x l)) (meet x l) x) l ≡ true
under l x = by_test (leq x l) (λ e. rw e e) (λ e. rw e (meet_r x l))

turned_on : (n : ℕ) → on (cond (not (on n)) 1 n) ≡ true
turned_on n = by_test (on n) (λ e. rw e e) (λ e. rw e)

reads_enough : (l : Label) (r : Process) (clr : Label)
    → may_read l (eased (read_failed l r clr) (join r.current l) r) (eased_clearance (read_failed l r clr) (join r.current l) clr) ≡ true
unfolding may_read read_failed unless ◌and◌
reads_enough l r clr =
    by_test (leq l r.current) (λ h. or_l _ _ h)
    (λ h. or_r _ _ (rw h (and_i _ _ (turned_on r.automatic) (and_i _ _ (over _ r.writemark) (over _ clr)))))

writes_enough : (l : Label) (r : Process) (clr : Label) → may_write l (eased (write_failed l r clr) l r) (eased_clearance (write_failed l r clr) l clr) ≡ true
unfolding may_write write_failed unless ◌and◌
writes_enough l r clr =
    by_test (same l r.current) (λ h. or_l _ _ h)
    (λ h. or_r _ _
    (rw h (and_i _ _ (turned_on r.automatic) (and_i _ _ (under l r.readmark) (and_i _ _ (over l r.writemark) (over l clr))))))

sets_enough : (l : Label) (r : Process) (clr : Label) → may_set l (eased (set_failed l r clr) l r) (eased_clearance (set_failed l r clr) l clr) ≡ true
unfolding may_set set_failed unless ◌and◌
sets_enough l r clr = and_i _ _ (under l r.readmark) (and_i _ _ (over l r.writemark) (over l clr))

pub enough : (l : Label) (r : Process) (clr : Label) → Enough l r clr
enough l r clr = record { reads = reads_enough l r clr; writes = writes_enough l r clr; sets = sets_enough l r clr }
