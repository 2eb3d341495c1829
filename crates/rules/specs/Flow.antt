-- Demand 3 in two statements. `only_when` (proofs/OnlyWhen) and `exactly_when` (proofs/ExactlyWhen) prove them.
-- A list of calls is of any length, each call any four bytes, accepted or refused. It starts from the fresh facility of the set-up `s`.
use Rattle.std.specs.Prelude.{ℕ, ◌<◌, ◌≡◌, ◌≢◌, ◌↔◌, Bool, true, false, List, [], ◌∷◌, ltb, eqb}
use Rattle.rules.specs.Types.{Switches, Call}
use Rattle.labels.specs.Decisions.{◌and◌, asked, on}
use Rattle.state.specs.State.{switches_of, is_user, trusted_user, label_of, clearance_of}
use Rattle.labels.specs.Labels.{Label, given, ◌⊑◌}
use Rattle.rules.specs.Histories.{run, trusted_logins}
use Rattle.rules.specs.Requests.{action_of, is_login}
use Rattle.rules.specs.Setup.{fresh}
use Rattle.rules.specs.Matter.{holds}

-- Object b's label may hold the matter of a's: both are set, and b's is at least a's.
pub record Above (b a : Label) : Type 0 where
  pub own : given b ≡ true
  pub other : given a ≡ true
  pub above : a ⊑ b

-- First half: for every set-up with MAC on, FC, SIM and FF on or off, and every list without a trusted login, b holds the matter of
-- another object a only when its label, after the list, dominates a's. Created and deleted objects are included.
-- (A refused set-up has MAC off, so `s` is an accepted one.)
abbrev pub OnlyWhen : Type 0
OnlyWhen =
    (s : List ℕ) → on (fresh s).mac ≡ true
    → (cs : List Call) → trusted_logins (fresh s) cs ≡ false
    → (a b : ℕ) → holds s cs b a ≡ true → b ≢ a
    → Above (label_of (run (fresh s) cs) b) (label_of (run (fresh s) cs) a)

-- A call is four bytes.
abbrev pub four_bytes : Call → Bool
four_bytes c = ltb c.request 256 and ltb c.process 256 and ltb c.target 256 and ltb c.extra 256

unfoldable pub all_four_bytes : List Call → Bool
all_four_bytes [] = true
all_four_bytes (c ∷ cs) = four_bytes c and all_four_bytes cs

-- All logins of a list, accepted or refused, are user u's.
unfoldable pub logins_by : ℕ → List Call → Bool
logins_by u [] = true
logins_by u (c ∷ cs) = asked (is_login (action_of c.request)) (eqb c.extra u) and logins_by u cs

-- "Such a list": one without a trusted login, whoever logs in, after which b holds the matter of a.
pub record Reaches (s : List ℕ) (a b : ℕ) : Type 0 where
  pub calls : List Call
  pub untrusted : trusted_logins (fresh s) calls ≡ false
  pub holding : holds s calls b a ≡ true

-- Such a list of four-byte calls, all logins of which are u's.
pub record Carries (s : List ℕ) (u a b : ℕ) : Type 0 where
  pub calls : List Call
  pub four : all_four_bytes calls ≡ true
  pub logins : logins_by u calls ≡ true
  pub untrusted : trusted_logins (fresh s) calls ≡ false
  pub holding : holds s calls b a ≡ true

-- User u is untrusted and cleared for a and b: u's clearance dominates the label of each. The level of each is then set, since an unset one (255) is
-- above every clearance's.
pub record Cleared (s : List ℕ) (u a b : ℕ) : Type 0 where
  pub user : is_user (fresh s) u ≡ true
  pub untrusted : trusted_user (fresh s) u ≡ false
  pub first : label_of (fresh s) a ⊑ clearance_of (fresh s) u
  pub second : label_of (fresh s) b ⊑ clearance_of (fresh s) u

-- MAC is on alone: all other switches are off.
pub record MacAlone (s : Switches) : Type 0 where
  pub mac : on s.mac ≡ true
  pub fc : on s.fc ≡ false
  pub sim : on s.sim ≡ false
  pub ff : on s.ff ≡ false

-- Second half: for every set-up with MAC on alone, objects a and b of it, of any kind, and an untrusted user cleared for both, a list by which b comes to
-- hold the matter of a exists exactly when b's label dominates a's; and where one exists, one with logins of this user alone does.
abbrev pub ExactlyWhen : Type 0
ExactlyWhen =
    (s : List ℕ) → MacAlone (switches_of (fresh s))
    → (a b : ℕ) → a < (fresh s).entered → b < (fresh s).entered
    → (u : ℕ) → Cleared s u a b
    → (Reaches s a b ↔ (label_of (fresh s) a ⊑ label_of (fresh s) b)) × (Reaches s a b → Carries s u a b)
