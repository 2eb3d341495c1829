-- Ticket 6, labels: dominance is a partial order with a least label above two and a greatest below two, a bottom and a top; the rank goes up with it.
use Rattle.std.specs.Prelude.{ℕ, ◌≤◌, ◌<◌, ◌≡◌, true, false}
use Rattle.labels.specs.Labels.{Label, label, ◌⊑◌, same, join, meet, bottom, top, rank, top_level, all_categories}

pub record LabelLaws : Type 0 where
  pub reflexive : (a : Label) → a ⊑ a
  pub transitive : (a b c : Label) → a ⊑ b → b ⊑ c → a ⊑ c
  pub antisymmetric : (a b : Label) → a ⊑ b → b ⊑ a → a ≡ b
  -- the test of equality
  pub told : (a b : Label) → same a b ≡ true → a ≡ b
  pub tells : (a b : Label) → a ≡ b → same a b ≡ true
  -- the least label above both
  pub above_first : (a b : Label) → a ⊑ join a b
  pub above_second : (a b : Label) → b ⊑ join a b
  pub least : (a b c : Label) → a ⊑ c → b ⊑ c → join a b ⊑ c
  -- the greatest label below both
  pub below_first : (a b : Label) → meet a b ⊑ a
  pub below_second : (a b : Label) → meet a b ⊑ b
  pub greatest : (a b c : Label) → c ⊑ a → c ⊑ b → c ⊑ meet a b
  -- the bottom is below every label, the top above every label of a level up to the highest and eight categories
  pub bottom_below : (a : Label) → bottom ⊑ a
  pub top_above : (n s : ℕ) → n ≤ top_level → s ≤ all_categories → label n s ⊑ top
  -- a label that dominates another one has the higher rank
  pub higher : (a b : Label) → a ⊑ b → same a b ≡ false → rank a < rank b
