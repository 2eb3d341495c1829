-- How an office uses the facility: a set-up is read into bytes, then call after call is enforced there, and the account of matter is kept along. What the
-- contracts say of each call is what documents 01 and 02 say of the list. `in_place` (proofs/InPlace) proves it.
use Rattle.std.specs.Prelude.{ℕ, ◌≡◌, ◌≢◌, true, false, List, [], ◌∷◌, eqb}
use Rattle.labels.specs.Decisions.{on}
use Rattle.answers.specs.declared.Outcome.{Outcome}
use Rattle.answers.specs.Outcomes.{number_of, denies}
use Rattle.state.specs.declared.Call.{Call}
use Rattle.state.specs.State.{label_of, process_of, trusted_user, counted}
use Rattle.rules.specs.Calls.{query, after}
use Rattle.rules.specs.Flow.{Above}
use Rattle.rules.specs.Histories.{run, outcomes, trusted_logins}
use Rattle.rules.specs.Matter.{account_after, holds}
use Rattle.rules.specs.Promises.{AcceptedSignal, receiver_owner, with_read_mark_raised}
use Rattle.rules.specs.Setup.{fresh}
use Rattle.matter.specs.declared.Ledger.{Ledger}
use Rattle.matter.specs.LedgerSteps.{start_of, step_of, held_by, account_of}
use Rattle.history.specs.Promised.{Promised}
use Rattle.in_place.specs.Layout.{facility_at}
use Rattle.in_place.specs.Stores.{Becomes}

-- What there is at one time: the bytes of the facility, and the account.
pub record Kept : Type 0 where
  pub bytes : List ℕ
  pub account : Ledger

-- The set-up s is read into the bytes b (`hv_read_setup_at`), and the account is started of what they are then (`hv_account_start`).
pub record Begun (s b : List ℕ) (x : Kept) : Type 0 where
  pub bytes : Becomes b x.bytes (fresh s)
  pub account : x.account ≡ start_of (facility_at x.bytes).entered (facility_at x.bytes).kinds

-- Call c is enforced there (`hv_enforce_at`), o is what it came to, and the account is told whether its number is 0 (`hv_account_step`).
pub record CallMade (x : Kept) (c : Call) (o : Outcome) (y : Kept) : Type 0 where
  pub outcome : o ≡ query (facility_at x.bytes) c
  pub bytes : Becomes x.bytes y.bytes (after (facility_at x.bytes) c)
  pub account : y.account ≡ step_of x.account c (eqb (number_of o) 0)

-- The calls of a list, one after the other, and what each came to.
pub data CallsMade : Kept → List Call → List Outcome → Kept → Type 0 where
  done : (x : Kept) → CallsMade x [] [] x
  next : (x y z : Kept) (c : Call) (o : Outcome) (cs : List Call) (os : List Outcome) → CallMade x c o y → CallsMade y cs os z
      → CallsMade x (c ∷ cs) (o ∷ os) z

-- What is known after such a list.
pub record Afterwards (s b : List ℕ) (cs : List Call) (os : List Outcome) (z : Kept) : Type 0 where
  -- the bytes are those of the facility after the list, with the padding that was there; the outcomes are those of the list
  pub bytes : Becomes b z.bytes (run (fresh s) cs)
  pub told : os ≡ outcomes (fresh s) cs
  -- Tickets 1, 2 and 5, set-ups, object numbers and labels
  pub promised : Promised s cs (facility_at z.bytes)
  -- the account is the paper's, of objects and of processes; and so is what it answers (`hv_account_holds`)
  pub account : account_of z.account ≡ account_after s cs
  pub holding : (t c : ℕ) → held_by z.account.objects t c ≡ holds s cs t c
  -- demand 3, first half
  pub only_when : on (facility_at z.bytes).mac ≡ true → trusted_logins (fresh s) cs ≡ false
      → (t c : ℕ) → held_by z.account.objects t c ≡ true → t ≢ c → Above (label_of (facility_at z.bytes) t) (label_of (facility_at z.bytes) c)
  -- demand 1: one call more, refused with 12 or 13, counts for the caller's owner, and with any other number changes nothing
  pub counts : (c : Call) (o : Outcome) (y : Kept) → CallMade z c o y → denies (number_of o) ≡ true
      → facility_at y.bytes ≡ counted (facility_at z.bytes) (process_of (facility_at z.bytes) c.process).owner
  pub unchanged : (c : Call) (o : Outcome) (y : Kept) → CallMade z c o y → eqb (number_of o) 0 ≡ false → denies (number_of o) ≡ false
      → facility_at y.bytes ≡ facility_at z.bytes
  -- Ticket 4: one call more, an accepted signal, raises the read mark of an untrusted receiver to its current label, with MAC on, and changes nothing else
  pub raises : (c : Call) (o : Outcome) (y : Kept) → CallMade z c o y → AcceptedSignal (facility_at z.bytes) c → on (facility_at z.bytes).mac ≡ true
      → trusted_user (facility_at z.bytes) (receiver_owner (facility_at z.bytes) c) ≡ false
      → facility_at y.bytes ≡ with_read_mark_raised (facility_at z.bytes) c.target
  -- with MAC off, or a trusted receiver, it changes nothing
  pub off : (c : Call) (o : Outcome) (y : Kept) → CallMade z c o y → AcceptedSignal (facility_at z.bytes) c → on (facility_at z.bytes).mac ≡ false
      → facility_at y.bytes ≡ facility_at z.bytes
  pub trusted : (c : Call) (o : Outcome) (y : Kept) → CallMade z c o y → AcceptedSignal (facility_at z.bytes) c
      → trusted_user (facility_at z.bytes) (receiver_owner (facility_at z.bytes) c) ≡ true → facility_at y.bytes ≡ facility_at z.bytes

abbrev pub InPlace : Type 0
InPlace =
    (s b : List ℕ) (x : Kept) (cs : List Call) (os : List Outcome) (z : Kept) → Begun s b x → CallsMade x cs os z → Afterwards s b cs os z
