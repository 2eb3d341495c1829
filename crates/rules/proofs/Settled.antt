-- Why a level settles: where the level of an untrusted process stands after n moves. By the laws of labels and of their rank alone.
use Rattle.std.specs.Prelude.{ℕ, ◌+◌, ◌≤◌, ◌≡◌, refl, Bool, true, false, not, cond}
use Rattle.std.proofs.Common.{sym, ◌∙◌, ap, arith}
use Rattle.std.proofs.Math.Path.{subst⁻¹}
use Rattle.rules.specs.Types.{Process}
use Rattle.labels.specs.Decisions.{◌and◌, ◌or◌, on}
use Rattle.labels.proofs.Laws.Decisions.{and_l, and_r, or_cases, clash, by_test}
use Rattle.state.specs.State.{is_automatic, fresh_process}
use Rattle.labels.specs.Labels.{Label, same, join, rank, ◌⊑◌}
use Rattle.labels.proofs.Laws.Labels.{⊑_refl, ⊑_trans, ⊑-antisym, same_eq, eq_same, join_l, join_r, join_least, meet_r, meet_greatest, bottom_least}
use Rattle.labels.proofs.Laws.Labels.{rank_up, rank_over}
use Rattle.answers.specs.Answers.{passes}
use Rattle.answers.proofs.Laws.Answers.{passes_grant}
use Rattle.rules.specs.Requests.{Class, Absent, Reads, Writes, Both, NoCondition, observes, alters}
use Rattle.rules.specs.Modules.{may_read, may_write, may_set, mac_class, move_by, set_level, read_mark_raised}
use Rattle.rules.proofs.Invariant.{Ordered}
use Rattle.rules.proofs.Moves.{move_moved}

-- While automatic is on, a level goes up as long as it stands at the read mark, and from the first write elsewhere on it stands at the write mark and
-- goes down; each move up raises its rank, each move down lowers it.
pub data Free (n : ℕ) (clr : Label) (r : Process) : Type 0 where
  rising : r.current ≡ r.readmark → n ≤ rank r.current → Free n clr r
  falling : r.current ≡ r.writemark → n + rank r.current ≤ rank r.readmark + rank clr + 1 → Free n clr r

pub record Settled (n : ℕ) (clr : Label) (r : Process) : Type 0 where
  pub ordered : Ordered r
  pub cleared : r.current ⊑ clr
  pub most : n ≤ rank clr + 1
  pub free : is_automatic r ≡ true → Free n clr r

-- one more where a test holds
abbrev pub more : Bool → ℕ → ℕ
more b n = cond b 1 0 + n

-- whether R, W or B on an object with label l changes the current level of r
abbrev pub changes : Class → Label → Process → Bool
changes k l r = (observes k or alters k) and not (same (move_by k l r).current r.current)

free_most : (n : ℕ) (clr : Label) (r : Process) → Ordered r → r.current ⊑ clr → Free n clr r → n ≤ rank clr + 1
free_most n clr r o c (rising e h) = let a = rank_up _ _ c in omega arith
free_most n clr r o c (falling e h) = let a = rank_up _ _ o.low in omega arith

free_settled : (n : ℕ) (clr : Label) (r : Process) → Ordered r → r.current ⊑ clr → Free n clr r → Settled n clr r
free_settled n clr r o c F = record { ordered = o; cleared = c; most = free_most n clr r o c F; free = λ a. F }

not_same : (a b : Label) → same a b ≡ false → same b a ≡ false
not_same a b h = by_test (same b a) (λ t. clash (eq_same a b (sym (same_eq b a t))) h) (λ t. t)

-- R, up to the write mark
read_free : (n : ℕ) (clr l : Label) (r : Process) → join r.current l ⊑ r.writemark → Free n clr r
    → Free (more (not (same (join r.current l) r.current)) n) clr (move_by Reads l r)
unfolding move_by
read_free n clr l r u (rising e h) =
    rising (ap (λ (x : Label). join x l) e)
    (by_test (same (join r.current l) r.current)
    (λ s. rw s (let a = rank_up _ _ (join_l r.current l) in omega arith))
    (λ s. rw s (let a = rank_over r.current (join r.current l) (join_l _ _) (not_same _ _ s) in omega arith)))
read_free n clr l r u (falling e h) =
    let z : join r.current l ≡ r.current = ⊑-antisym _ _ (subst⁻¹ (λ (x : Label). join r.current l ⊑ x) e u) (join_l _ _) in
    falling (z ∙ e)
    (rw (eq_same _ _ z) (let a = rank_up _ _ (join_l r.readmark l) in let b = ap rank z in omega arith))

-- W and B, on a label between the marks
pub record Between (clr l : Label) (r : Process) : Type 0 where
  pub low : r.readmark ⊑ l
  pub high : l ⊑ r.writemark
  pub cleared : l ⊑ clr

-- a level that stands at the write mark and goes to l, no higher: what is left of its way has become shorter by the move
lower : (n : ℕ) (clr l : Label) (r : Process) → l ⊑ r.writemark → r.current ≡ r.writemark
    → n + rank r.current ≤ rank r.readmark + rank clr + 1 → more (not (same l r.current)) n + rank l ≤ rank r.readmark + rank clr + 1
lower n clr l r u e h =
    by_test (same l r.current)
    (λ s. rw s (let b = ap rank (same_eq _ _ s) in omega arith))
    (λ s. rw s (let a = rank_over l r.current (subst⁻¹ (λ (x : Label). l ⊑ x) e u) s in omega arith))

write_free : (n : ℕ) (clr l : Label) (r : Process) → Between clr l r → Free n clr r
    → Free (more (not (same l r.current)) n) clr (move_by Writes l r)
unfolding move_by
write_free n clr l r B (rising e h) =
    by_test (same l r.current)
    (λ s. rw s (rising (same_eq _ _ s ∙ e) (let b = ap rank (same_eq _ _ s) in omega arith)))
    (λ s. rw s (falling (⊑-antisym _ _ (meet_greatest _ _ _ B.high (⊑_refl _)) (meet_r _ _))
    (let a = rank_up _ _ B.cleared in let b = ap rank e in omega arith)))
write_free n clr l r B (falling e h) =
    falling (⊑-antisym _ _ (meet_greatest _ _ _ B.high (⊑_refl _)) (meet_r _ _)) (lower n clr l r B.high e h)

both_free : (n : ℕ) (clr l : Label) (r : Process) → Between clr l r → Free n clr r
    → Free (more (not (same l r.current)) n) clr (move_by Both l r)
unfolding move_by
both_free n clr l r B (rising e h) =
    rising refl
    (by_test (same l r.current)
    (λ s. rw s (let b = ap rank (same_eq _ _ s) in omega arith))
    (λ s. rw s (let a = rank_over r.current l (subst⁻¹ (λ (x : Label). x ⊑ l) e B.low) (not_same _ _ s) in omega arith)))
both_free n clr l r B (falling e h) =
    falling refl (let a = rank_up _ _ B.low in let b = lower n clr l r B.high e h in omega arith)

-- a process that became s: with automatic on it is free as before, with it off its level stood still
settled_to : (n : ℕ) (clr : Label) (r s : Process) → Settled n clr r → s.automatic ≡ r.automatic → Ordered s → s.current ⊑ clr
    → (is_automatic r ≡ true → Free (more (not (same s.current r.current)) n) clr s) → (is_automatic r ≡ false → s.current ≡ r.current)
    → Settled (more (not (same s.current r.current)) n) clr s
settled_to n clr r s S e o c F h =
    by_test (is_automatic r)
    (λ a. free_settled _ clr s o c (F a))
    (λ a. record {
      ordered = o;
      cleared = c;
      most = rw (eq_same _ _ (h a)) (let b = S.most in omega arith);
      free = λ b. clash b (ap on e ∙ a);
    })

-- a granted read
settled_read : (n : ℕ) (clr l : Label) (r : Process) → may_read l r clr ≡ true → Ordered (move_by Reads l r) → Settled n clr r
    → Settled (more (not (same (join r.current l) r.current)) n) clr (move_by Reads l r)
unfolding may_read move_by
settled_read n clr l r h o S =
    settled_to n clr r (move_by Reads l r) S refl o cleared
    (λ a. read_free n clr l r o.high (S.free a))
    (λ a. ⊑-antisym _ _ (join_least _ _ _ (⊑_refl _) (or_cases _ _ h (λ e. e) (λ e. clash (and_l _ _ e) a))) (join_l _ _))
  where
    cleared : join r.current l ⊑ clr
    cleared =
        join_least _ _ _ S.cleared
        (or_cases _ _ h (λ e. ⊑_trans _ _ _ e S.cleared) (λ e. ⊑_trans _ _ _ (join_r _ _) (and_r _ _ (and_r _ _ e))))

-- a granted write: between the marks, and with automatic off at the current level
between : (n : ℕ) (clr l : Label) (r : Process) → may_write l r clr ≡ true → Settled n clr r → Between clr l r
unfolding may_write
between n clr l r h S =
    or_cases _ _ h
    (λ e. let q = same_eq _ _ e in record { low = rw q S.ordered.low; high = rw q S.ordered.high; cleared = rw q S.cleared })
    (λ e. let f = and_r _ _ e in record { low = and_l _ _ f; high = and_l _ _ (and_r _ _ f); cleared = and_r _ _ (and_r _ _ f) })

write_held : (clr l : Label) (r : Process) → may_write l r clr ≡ true → is_automatic r ≡ false → l ≡ r.current
unfolding may_write
write_held clr l r h a = or_cases _ _ h (λ e. same_eq _ _ e) (λ e. clash (and_l _ _ e) a)

-- a granted call of each class
pub settled_move : (k : Class) (n : ℕ) (clr l : Label) (r : Process) → passes (mac_class k l r clr) ≡ true → Settled n clr r
    → Settled (more (changes k l r) n) clr (move_by k l r)
unfolding mac_class passes ◌and◌ ◌or◌ move_by
settled_move Absent n clr l r h S = clash h refl
settled_move Reads n clr l r h S = settled_read n clr l r (passes_grant _ h) (move_moved Reads l r clr S.ordered h).ordered S
settled_move Writes n clr l r h S =
    let g = passes_grant _ h in
    let B = between n clr l r g S in
    settled_to n clr r (move_by Writes l r) S refl (move_moved Writes l r clr S.ordered h).ordered B.cleared
    (λ a. write_free n clr l r B (S.free a)) (write_held clr l r g)
settled_move Both n clr l r h S =
    let g = passes_grant _ h in
    let B = between n clr l r g S in
    settled_to n clr r (move_by Both l r) S refl (move_moved Both l r clr S.ordered h).ordered B.cleared
    (λ a. both_free n clr l r B (S.free a)) (write_held clr l r g)
settled_move NoCondition n clr l r h S = let e : 0 + n ≡ n = omega arith in rw e S

-- set-level: automatic goes off
pub settled_level : (n : ℕ) (clr l : Label) (r : Process) → may_set l r clr ≡ true → Settled n clr r → Settled n clr (set_level l r)
unfolding set_level may_set
settled_level n clr l r h S =
    record {
      ordered = record { low = and_l _ _ h; high = and_l _ _ (and_r _ _ h) };
      cleared = and_r _ _ (and_r _ _ h);
      most = S.most;
      free = λ a. clash a refl;
    }

-- a signal's receiver: its read mark goes up to its current level
raised_free : (n : ℕ) (clr : Label) (r : Process) → Ordered r → Free n clr r → Free n clr (read_mark_raised r)
raised_free n clr r o (rising e h) = rising refl h
raised_free n clr r o (falling e h) = falling e (let a = rank_up _ _ o.low in omega arith)

pub settled_raised : (n : ℕ) (clr : Label) (r : Process) → Settled n clr r → Settled n clr (read_mark_raised r)
settled_raised n clr r S =
    record {
      ordered = record { low = ⊑_refl _; high = S.ordered.high };
      cleared = S.cleared;
      most = S.most;
      free = λ a. raised_free n clr r S.ordered (S.free a);
    }

-- a login
pub settled_fresh : (u : ℕ) (clr : Label) → Settled 0 clr (fresh_process u)
unfolding fresh_process
settled_fresh u clr =
    free_settled 0 clr (fresh_process u) (record { low = ⊑_refl _; high = bottom_least _ }) (bottom_least _) (rising refl (omega arith))
