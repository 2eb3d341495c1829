-- What `replay` returns: the bytes `setup` and `calls` are its arguments, and `replayed setup calls` is its result, by its contract.
use Rattle.std.specs.Prelude.{ℕ, ◌<◌, ◌%◌, List, [], ◌∷◌, ◌++◌, ◌≡◌, ◌≢◌, ◌↔◌, true, false, not, length}
use Rattle.state.specs.declared.Call.{Call}
use Rattle.state.specs.declared.Facility.{Facility}
use Rattle.answers.specs.Outcomes.{denies}
use Rattle.rules.specs.Calls.{accepted}
use Rattle.rules.specs.Histories.{run, trusted_logins}
use Rattle.rules.specs.Setup.{fresh}
use Rattle.rules.specs.Lines.{calls_of}
use Rattle.labels.specs.Decisions.{◌and◌, on}
use Rattle.state.specs.State.{label_of, switches_of, process_of, counted, trusted_user}
use Rattle.rules.specs.Promises.{AcceptedSignal, receiver_owner, with_read_mark_raised}
use Rattle.rules.specs.Questions.{number}
use Rattle.rules.specs.Flow.{Above, logins_by, Cleared, MacAlone}
use Rattle.rules.specs.Matter.{holds}
use Rattle.history.specs.CallBytes.{all_bytes, call_bytes}
use Rattle.history.specs.Promised.{Promised}
use Rattle.labels.specs.Labels.{◌⊑◌}

abbrev pub replayed : List ℕ → List ℕ → Facility
replayed setup calls = run (fresh setup) (calls_of calls)

-- Tickets 1, 2 and 5, set-ups, object numbers and labels, of what replay returns.
abbrev pub PromisedReplayed : Type 0
PromisedReplayed = (setup calls : List ℕ) → Promised setup (calls_of calls) (replayed setup calls)

-- the bytes of whole calls, and of call c behind them
abbrev pub one_more_call : List ℕ → Call → List ℕ
one_more_call calls c = calls ++ call_bytes (c ∷ [])

-- Demand 1 and Ticket 4 of replays without and with a last call.
pub record LastCallReplayed : Type 0 where
  -- a refused one changes the counter of the caller's owner alone, and that with 12 and 13 alone
  pub unchanged : (setup calls : List ℕ) (c : Call) → length calls % 4 ≡ 0 → accepted (replayed setup calls) c ≡ false
      → denies (number (replayed setup calls) c) ≡ false → replayed setup (one_more_call calls c) ≡ replayed setup calls
  pub counts : (setup calls : List ℕ) (c : Call) → length calls % 4 ≡ 0 → denies (number (replayed setup calls) c) ≡ true
      → replayed setup (one_more_call calls c) ≡ counted (replayed setup calls) (process_of (replayed setup calls) c.process).owner
  -- an accepted signal raises the receiver's read mark to its current label, with MAC on and an untrusted receiver, and changes nothing else
  pub raises : (setup calls : List ℕ) (c : Call) → length calls % 4 ≡ 0 → AcceptedSignal (replayed setup calls) c
      → on (replayed setup calls).mac ≡ true → trusted_user (replayed setup calls) (receiver_owner (replayed setup calls) c) ≡ false
      → replayed setup (one_more_call calls c) ≡ with_read_mark_raised (replayed setup calls) c.target
  pub unraised : (setup calls : List ℕ) (c : Call) → length calls % 4 ≡ 0 → AcceptedSignal (replayed setup calls) c
      → (on (replayed setup calls).mac and not (trusted_user (replayed setup calls) (receiver_owner (replayed setup calls) c))) ≡ false
      → replayed setup (one_more_call calls c) ≡ replayed setup calls

-- Demand 3, first half: with MAC on and no trusted login among the calls, object b holds the matter of another object a only when its level in the
-- facility that replay returns is at least a's.
abbrev pub OnlyWhenReplayed : Type 0
OnlyWhenReplayed =
    (setup calls : List ℕ) → on (replayed setup calls).mac ≡ true → trusted_logins (fresh setup) (calls_of calls) ≡ false
    → (a b : ℕ) → holds setup (calls_of calls) b a ≡ true → b ≢ a
    → Above (label_of (replayed setup calls) b) (label_of (replayed setup calls) a)

-- bytes of calls without a trusted login, whoever logs in, by whose replay b comes to hold the matter of a
pub record ReachesBytes (setup : List ℕ) (a b : ℕ) : Type 0 where
  pub calls : List ℕ
  pub bytes : all_bytes calls ≡ true
  pub untrusted : trusted_logins (fresh setup) (calls_of calls) ≡ false
  pub holding : holds setup (calls_of calls) b a ≡ true

-- such bytes, all logins of which are u's
pub record CarriesBytes (setup : List ℕ) (u a b : ℕ) : Type 0 where
  pub calls : List ℕ
  pub bytes : all_bytes calls ≡ true
  pub logins : logins_by u (calls_of calls) ≡ true
  pub untrusted : trusted_logins (fresh setup) (calls_of calls) ≡ false
  pub holding : holds setup (calls_of calls) b a ≡ true

-- Second half: with MAC on alone, a of any kind, and an untrusted user cleared for both, there are such bytes exactly when b's level is at least a's; and
-- where there are, there are such with logins of this user alone.
abbrev pub ExactlyWhenReplayed : Type 0
ExactlyWhenReplayed =
    (setup : List ℕ) → MacAlone (switches_of (fresh setup))
    → (a b : ℕ) → a < (fresh setup).entered → b < (fresh setup).entered
    → (u : ℕ) → Cleared setup u a b
    → (ReachesBytes setup a b ↔ (label_of (fresh setup) a ⊑ label_of (fresh setup) b)) × (ReachesBytes setup a b → CarriesBytes setup u a b)
