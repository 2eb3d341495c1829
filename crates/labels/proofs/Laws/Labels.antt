-- The laws of labels. Everything else goes by these, and looks into no label.
use Rattle.std.specs.Prelude.{◌+◌, ◌≤◌, ◌<◌, ℕ, ◌≡◌, true, false, leb, eqb}
use Rattle.std.proofs.Common.{sym, ◌∙◌, ap, arith, le-leb, leb-true, eqb-true, leb-false, eq-eqb, ne_eqb}
use Rattle.std.specs.Int.Bits.{bit_or, bit_and, or_self, or_zero_l}
use Rattle.std.proofs.lemmas.Nat.{or_comm, and_comm, ones-le}
use Rattle.std.specs.Int.Count.{ones}
use Rattle.labels.specs.Labels.{unset, all_categories, Label, within, leq, ◌⊑◌, same, larger, smaller, join, meet, bottom, lawful, top, given, label}
use Rattle.labels.specs.Labels.{rank}
use Rattle.labels.specs.LabelLaws.{LabelLaws}
use Rattle.labels.proofs.Laws.Decisions.{and_l, and_r, and_i, by_test, clash}
use Rattle.labels.proofs.Laws.Bits.{or_assoc, and_absorbed, or_and, within_byte, within_most, within_ones_most, within_same}

-- facts of a dominance, and a dominance of facts
level_of : (a b : Label) → a ⊑ b → a.level ≤ b.level
unfolding leq
level_of a b h = leb-true _ _ (and_l _ _ h)

set_of_law : (a b : Label) → a ⊑ b → bit_or a.set b.set ≡ b.set
unfolding leq within
set_of_law a b h = eqb-true _ _ (and_r _ _ h)

dominated : (a b : Label) → a.level ≤ b.level → bit_or a.set b.set ≡ b.set → a ⊑ b
unfolding leq within
dominated a b h k = and_i _ _ (le-leb _ _ h) (eq-eqb _ _ k)

larger_l : (a b : ℕ) → a ≤ larger a b
larger_l a b = by_test (leb a b) (λ h. rw h (leb-true a b h)) (λ h. rw h (omega arith))

larger_r : (a b : ℕ) → b ≤ larger a b
larger_r a b = by_test (leb a b) (λ h. rw h (omega arith)) (λ h. let p : b < a = leb-false a b h in rw h (omega arith))

larger_least : (a b c : ℕ) → a ≤ c → b ≤ c → larger a b ≤ c
larger_least a b c h k = by_test (leb a b) (λ e. rw e k) (λ e. rw e h)

smaller_l : (a b : ℕ) → smaller a b ≤ a
smaller_l a b = by_test (leb a b) (λ h. rw h (omega arith)) (λ h. let p : b < a = leb-false a b h in rw h (omega arith))

smaller_r : (a b : ℕ) → smaller a b ≤ b
smaller_r a b = by_test (leb a b) (λ h. rw h (leb-true a b h)) (λ h. rw h (omega arith))

smaller_greatest : (a b c : ℕ) → c ≤ a → c ≤ b → c ≤ smaller a b
smaller_greatest a b c h k = by_test (leb a b) (λ e. rw e h) (λ e. rw e k)

-- The laws.
pub ⊑_refl : (a : Label) → a ⊑ a
⊑_refl a = dominated a a (omega arith) (or_self a.set)

pub ⊑_trans : (a b c : Label) → a ⊑ b → b ⊑ c → a ⊑ c
⊑_trans a b c h k =
    let p = level_of a b h in
    let q = level_of b c k in
    dominated a c (omega arith)
    (ap (bit_or a.set) (sym (set_of_law b c k)) ∙ or_assoc a.set b.set c.set ∙ ap (λ (x : ℕ). bit_or x c.set) (set_of_law a b h) ∙ set_of_law b c k)

pub same_eq : (a b : Label) → same a b ≡ true → a ≡ b
unfolding same
same_eq a b h =
    λ i. record { level = eqb-true a.level b.level (and_l _ _ h) i; set = eqb-true a.set b.set (and_r _ _ h) i }

pub eq_same : (a b : Label) → a ≡ b → same a b ≡ true
unfolding same
eq_same a b e = and_i _ _ (eq-eqb a.level b.level (λ i. (e i).level)) (eq-eqb a.set b.set (λ i. (e i).set))

pub ⊑-antisym : (a b : Label) → a ⊑ b → b ⊑ a → a ≡ b
⊑-antisym a b h k =
    let p = level_of a b h in
    let q = level_of b a k in
    let e : a.level ≡ b.level = omega arith in
    let f : a.set ≡ b.set = sym (set_of_law b a k) ∙ or_comm b.set a.set ∙ set_of_law a b h in
    λ i. record { level = e i; set = f i }

pub join_l : (a b : Label) → a ⊑ join a b
unfolding join
join_l a b =
    dominated a _ (larger_l a.level b.level)
    (or_assoc a.set a.set b.set ∙ ap (λ (x : ℕ). bit_or x b.set) (or_self a.set))

pub join_r : (a b : Label) → b ⊑ join a b
unfolding join
join_r a b =
    dominated b _ (larger_r a.level b.level)
    (ap (bit_or b.set) (or_comm a.set b.set) ∙ or_assoc b.set b.set a.set ∙ ap (λ (x : ℕ). bit_or x a.set) (or_self b.set)
    ∙ or_comm b.set a.set)

pub join_least : (a b c : Label) → a ⊑ c → b ⊑ c → join a b ⊑ c
unfolding join
join_least a b c h k =
    dominated _ c (larger_least _ _ _ (level_of a c h) (level_of b c k))
    (sym (or_assoc a.set b.set c.set) ∙ ap (bit_or a.set) (set_of_law b c k) ∙ set_of_law a c h)

pub meet_l : (a b : Label) → meet a b ⊑ a
unfolding meet
meet_l a b = dominated _ a (smaller_l a.level b.level) (and_absorbed a.set b.set)

pub meet_r : (a b : Label) → meet a b ⊑ b
unfolding meet
meet_r a b =
    dominated _ b (smaller_r a.level b.level)
    (ap (λ (x : ℕ). bit_or x b.set) (and_comm a.set b.set) ∙ and_absorbed b.set a.set)

pub meet_greatest : (a b c : Label) → c ⊑ a → c ⊑ b → c ⊑ meet a b
unfolding meet
meet_greatest a b c h k =
    dominated c _ (smaller_greatest _ _ _ (level_of c a h) (level_of c b k))
    (or_and a.set b.set c.set ∙ (λ i. bit_and (set_of_law c a h i) (set_of_law c b k i)))

pub bottom_least : (a : Label) → bottom ⊑ a
unfolding bottom
bottom_least a = dominated _ a (omega arith) (or_zero_l a.set)

-- a label at most a lawful one is lawful, and a lawful label is set
pub below_lawful : (a b : Label) → a ⊑ b → lawful b ≡ true → lawful a ≡ true
below_lawful a b h k = ⊑_trans _ _ _ h k

pub join_lawful : (a b : Label) → lawful a ≡ true → lawful b ≡ true → lawful (join a b) ≡ true
join_lawful a b h k = join_least _ _ _ h k

pub meet_lawful : (a b : Label) → lawful a ≡ true → lawful (meet a b) ≡ true
meet_lawful a b h = below_lawful _ _ (meet_l a b) h

pub lawful_not_unset : (a : Label) → lawful a ≡ true → eqb a.level unset ≡ false
unfolding top
lawful_not_unset a h =
    let p : a.level ≤ 15 = level_of a _ h in
    ne_eqb a.level unset (λ e. absurd (omega arith))

pub lawful_given : (a : Label) → lawful a ≡ true → given a ≡ true
unfolding given
lawful_given a h = rw (lawful_not_unset a h)

-- the rank of a higher label is higher, and that of a lawful one is at most 15 and 8
pub rank_up : (a b : Label) → a ⊑ b → rank a ≤ rank b
unfolding rank
rank_up a b h =
    let p = level_of a b h in
    let q = within_ones_most a.set b.set (set_of_law a b h) in
    omega arith

pub rank_over : (a b : Label) → a ⊑ b → same a b ≡ false → rank a < rank b
unfolding rank
rank_over a b h n =
    let p = level_of a b h in
    let q = within_ones_most a.set b.set (set_of_law a b h) in
    by_test (leb (b.level + ones b.set) (a.level + ones a.set))
    (λ t.
    let w : b.level + ones b.set ≤ a.level + ones a.set = leb-true _ _ t in
    let e : a.level ≡ b.level = omega arith in
    let f : a.set ≡ b.set = within_same a.set b.set (set_of_law a b h) (omega arith) in
    clash (eq_same a b (λ i. record { level = e i; set = f i })) n)
    (λ t. leb-false _ _ t)

pub rank_lawful : (a : Label) → lawful a ≡ true → rank a ≤ 23
unfolding rank top
rank_lawful a h =
    let p : a.level ≤ 15 = level_of a _ h in
    let q : a.set ≤ 255 = within_most a.set all_categories (set_of_law a _ h) in
    let r = ones-le 8 a.set (omega arith) in
    omega arith

-- the level and category bytes that are allowed in a set-up
pub label_lawful : (n s : ℕ) → leb n 15 ≡ true → leb s 255 ≡ true → lawful (label n s) ≡ true
unfolding top
label_lawful n s h k = dominated (label n s) _ (leb-true _ _ h) (within_byte s (leb-true _ _ k))

pub lawful_level : (a : Label) → lawful a ≡ true → leb a.level 15 ≡ true
unfolding top
lawful_level a h = le-leb _ _ (level_of a _ h)

pub lawful_set : (a : Label) → lawful a ≡ true → leb a.set 255 ≡ true
unfolding top
lawful_set a h = le-leb _ _ (within_most a.set all_categories (set_of_law a _ h))

pub unset_level : (n s : ℕ) → eqb n unset ≡ true → given (label n s) ≡ false
unfolding given
unset_level n s h = rw h

pub label_laws : LabelLaws
label_laws =
    record {
      reflexive = ⊑_refl;
      transitive = ⊑_trans;
      antisymmetric = ⊑-antisym;
      told = same_eq;
      tells = eq_same;
      above_first = join_l;
      above_second = join_r;
      least = join_least;
      below_first = meet_l;
      below_second = meet_r;
      greatest = meet_greatest;
      bottom_below = bottom_least;
      top_above = λ n s h k. label_lawful n s (le-leb n 15 h) (le-leb s 255 k);
      higher = rank_over;
    }
