-- Labels: what levels, marks and clearances are. A label is a level 0..15, or 255 where an object's is unset, with a set of eight categories, a bit of
-- a byte each.
use Rattle.std.specs.Prelude.{ℕ, ◌+◌, Bool, cond, not, true, ◌≡◌, leb, eqb}
use Rattle.std.specs.Int.Bits.{bit_or, bit_and}
use Rattle.std.specs.Int.Count.{ones}
use Rattle.labels.specs.Decisions.{◌and◌}
use Rattle.labels.specs.declared.Label.{Label as DeclaredLabel}

abbrev pub Label : Type 0
Label = DeclaredLabel

-- the byte of a level or a category that is unset
abbrev pub unset : ℕ
unset = 255

-- the highest level
abbrev pub top_level : ℕ
top_level = 15

-- the set of all eight categories
abbrev pub all_categories : ℕ
all_categories = 255

-- the label of a level byte and a byte of categories
abbrev pub label : ℕ → ℕ → Label
label n s = record { level = n; set = s }

-- the categories of a are among those of b
unfoldable pub within : ℕ → ℕ → Bool
within a b = eqb (bit_or a b) b

-- b dominates a: its level is at least as high and its set contains a's
unfoldable pub leq : Label → Label → Bool
leq a b = leb a.level b.level and within a.set b.set

-- both parts are equal
unfoldable pub same : Label → Label → Bool
same a b = eqb a.level b.level and eqb a.set b.set

-- the larger and the smaller of two numbers
abbrev pub larger : ℕ → ℕ → ℕ
larger a b = cond (leb a b) b a

abbrev pub smaller : ℕ → ℕ → ℕ
smaller a b = cond (leb a b) a b

-- the least label above both, and the greatest below both
unfoldable pub join : Label → Label → Label
join a b = label (larger a.level b.level) (bit_or a.set b.set)

unfoldable pub meet : Label → Label → Label
meet a b = label (smaller a.level b.level) (bit_and a.set b.set)

-- where a process starts: its current label and read mark at the bottom, its write mark at the top, the highest level with all eight
unfoldable pub bottom : Label
bottom = label 0 0

unfoldable pub top : Label
top = label top_level all_categories

-- a label that a process may have; and whether an object's label is set
abbrev pub lawful : Label → Bool
lawful a = leq a top

unfoldable pub given : Label → Bool
given a = not (eqb a.level unset)

-- how high a label stands, which is how often one can go up from the bottom to it: its level and the number of its categories
unfoldable pub rank : Label → ℕ
rank a = a.level + ones a.set

infix 20 ◌⊑◌
-- b dominates a, as a fact
abbrev pub ◌⊑◌ : Label → Label → Type 0
a ⊑ b = leq a b ≡ true
