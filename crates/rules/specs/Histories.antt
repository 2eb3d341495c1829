-- Lists of calls: the facility after one, its outcomes, its steps, the owner and the moves of a process by them, and of each call whether it was accepted.
use Rattle.std.specs.Prelude.{List, [], ◌∷◌, ℕ, ◌+◌, Bool, false, not, cond, eqb}
use Rattle.rules.specs.Types.{Call, Facility, Outcome}
use Rattle.rules.specs.Calls.{after, query, accepted}
use Rattle.labels.specs.Decisions.{◌and◌, ◌or◌}
use Rattle.labels.specs.Labels.{Label, same, rank}
use Rattle.state.specs.State.{trusted_user, process_of}
use Rattle.rules.specs.Requests.{action_of, is_login, is_clone, needs_object, observes, alters}
use Rattle.rules.specs.Modules.{view_of, class_in}

-- the facility after a list of calls: each gets the facility that the call before it returned
unfoldable pub run : Facility → List Call → Facility
run f [] = f
run f (c ∷ cs) = run (after f c) cs

-- the outcomes of the calls of a list
unfoldable pub outcomes : Facility → List Call → List Outcome
outcomes f [] = []
outcomes f (c ∷ cs) = query f c ∷ outcomes (after f c) cs

-- a call of a list with the facility that it was given
pub record Step : Type 0 where
  pub before : Facility
  pub call : Call

-- the steps of a list of calls from f, the latest first, and behind them the earlier steps xs
unfoldable pub past : Facility → List Call → List Step → List Step
past f [] xs = xs
past f (c ∷ cs) xs = past (after f c) cs (record { before = f; call = c } ∷ xs)

-- whether a step is the login that begins process p, and the cloning that makes process p
unfoldable pub is_start : Step → ℕ → Bool
is_start x p = accepted x.before x.call and is_login (action_of x.call.request) and eqb x.call.process p

unfoldable pub is_cloning : Step → ℕ → Bool
is_cloning x p = accepted x.before x.call and is_clone (action_of x.call.request) and eqb x.call.target p

-- the user who owns process p after a history: who logged in there last, and of a clone who owned its parent then
unfoldable pub owner_after : List Step → ℕ → ℕ
owner_after [] p = 0
owner_after (x ∷ xs) p =
    cond (is_start x p) x.call.extra (cond (is_cloning x p) (owner_after xs x.call.process) (owner_after xs p))

-- the current label of process p, and whether a call is of class R, W or B
abbrev pub current_of : Facility → ℕ → Label
current_of f p = (process_of f p).current

unfoldable pub of_class : Facility → Call → Bool
of_class f c =
    needs_object (action_of c.request) c.extra and (observes (class_in (view_of f c) c) or alters (class_in (view_of f c) c))

-- whether a step is a move of process p: an accepted R, W or B of p's own that changed its current label, the level or the set
unfoldable pub is_move : Step → ℕ → Bool
is_move x p =
    accepted x.before x.call and eqb x.call.process p and of_class x.before x.call
    and not (same (current_of (after x.before x.call) p) (current_of x.before p))

-- the moves of process p in a history: back to its login, and of a clone those of its parent up to the cloning too
unfoldable pub moves_of : List Step → ℕ → ℕ
moves_of [] p = 0
moves_of (x ∷ xs) p =
    cond (is_start x p) 0 (cond (is_cloning x p) (moves_of xs x.call.process) (cond (is_move x p) 1 0 + moves_of xs p))

-- how many moves there are at most where the owner has this clearance: its level plus its number of categories plus 1
abbrev pub moves_bound : Label → ℕ
moves_bound clearance = rank clearance + 1

-- a trusted login is an accepted login of a trusted user; whether a list has one
unfoldable pub trusted_login : Facility → Call → Bool
trusted_login f c = accepted f c and is_login (action_of c.request) and trusted_user f c.extra

unfoldable pub trusted_logins : Facility → List Call → Bool
trusted_logins f [] = false
trusted_logins f (c ∷ cs) = trusted_login f c or trusted_logins (after f c) cs

-- of each call: the four bytes and whether its number is 0
pub record Entry : Type 0 where
  pub call : Call
  pub accepted : Bool

-- what is taken of the calls of a list from f
unfoldable pub history : Facility → List Call → List Entry
history f [] = []
history f (c ∷ cs) = record { call = c; accepted = accepted f c } ∷ history (after f c) cs
