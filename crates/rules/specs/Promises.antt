-- Demands 1 and 2, and Tickets 1, 2, 4 and 5, as statements over the definitions. Each is proved in the module of proofs/ that its comment names.
use Rattle.answers.specs.declared.Outcome.TheVariants.{Refused}
use Rattle.std.specs.Prelude.{ℕ, zero, suc, ◌+◌, ◌-◌, ◌≤◌, ◌<◌, min, ◌≡◌, ◌≢◌, Bool, true, false, not, cond, List, []}
use Rattle.std.specs.Prelude.{◌∷◌, map, leb, ltb, eqb, length, set, take, drop}
use Rattle.std.specs.Int.Bits.{bit_or}
use Rattle.rules.specs.Types.{Outcome, Call, Object, Facility}
use Rattle.labels.specs.Decisions.{◌and◌, ◌or◌, asked, at, on}
use Rattle.answers.specs.Outcomes.{denies, number_of, object_number_of, no_object, write_number, write_length}
use Rattle.opens.specs.Opens.{most_objects}
use Rattle.state.specs.State.{Objects, objects_in, object_of, live, most_users, most_refusals, switches_of, process_of, refusals_of, put_refusals, counted}
use Rattle.state.specs.State.{trusted_user, clearance_of, label_of, runs, opens_of, users_in, processes_from, with, all_off, blank}
use Rattle.rules.specs.Calls.{owner_in, accepted, query, after}
use Rattle.rules.specs.Histories.{run, outcomes, Step, past, owner_after, current_of, moves_of, moves_bound}
use Rattle.rules.specs.Requests.{Action, Class, last_kind, last_request, action_of, is_absent, is_no_condition, is_login, is_create, in_directory, needs_object}
use Rattle.rules.specs.Requests.{send_signal_request}
use Rattle.rules.specs.Kinds.{switches_record_kind, user_record_kind, object_record_kind, SetupRecord, fits, room, allowed, parent_fits, record_number}
use Rattle.rules.specs.Setup.{records_in, switches_entered, user_entered, object_entered, fresh, accepted_setup, listed, every, users_of, live_objects}
use Rattle.rules.specs.Setup.{new_number, written_objects, setup_bytes, Writing, write_setup}
use Rattle.rules.specs.FileFlags.{read_only, no_execute, no_delete, search_only, add_inherited, has, without_no_delete, flags_of, parent_of, inherits}
use Rattle.rules.specs.FileFlags.{effective, forbids, flag_source}
use Rattle.rules.specs.Modules.{View, class_in}
use Rattle.rules.specs.Matter.{union, Account, after_entry}
use Rattle.rules.specs.Questions.{runs_of, in_range, is_running, is_free, open_for, number_by, number}

-- Demand 1 (proofs/Refusals): what a call that is not accepted leaves. (That query gives what enforce would is in the definition of `enforce`.)
pub record Refusals : Type 0 where
  -- everything but the counters is as it was
  pub unchanged : (f : Facility) (c : Call) → accepted f c ≡ false → after f c ≡ put_refusals f (after f c).refusals
  -- refusals but 12 and 13 leave the counters too, and come with not-cared answers alone and object 255
  pub uncounted : (f : Facility) (c : Call) → accepted f c ≡ false → denies (number f c) ≡ false → after f c ≡ f
  pub unasked : (f : Facility) (c : Call) → accepted f c ≡ false → denies (number f c) ≡ false → query f c ≡ Refused (number f c)
  -- 12 and 13 are counted, for the owner of the calling process alone
  pub counts : (f : Facility) (c : Call) → denies (number f c) ≡ true → after f c ≡ counted f (process_of f c.process).owner
  -- the outcome has the call's number
  pub numbered : (f : Facility) (c : Call) → number_of (query f c) ≡ number f c

-- how many outcomes of a history have number 12 or 13
unfoldable pub denials_in : List Outcome → ℕ
denials_in [] = 0
denials_in (o ∷ os) = cond (denies (number_of o)) 1 0 + denials_in os

-- how many steps of a history were refused with 12 or 13 when their caller was owned by user u; the owner is told by the earlier steps
unfoldable pub denials_of : ℕ → List Step → ℕ
denials_of u [] = 0
denials_of u (x ∷ xs) =
    cond (denies (number_of (query x.before x.call)) and eqb (owner_after xs x.call.process) u) 1 0 + denials_of u xs

-- g 0 + g 1 + .. of the first n
unfoldable pub sum_to : ℕ → (ℕ → ℕ) → ℕ
sum_to zero g = 0
sum_to (suc n) g = sum_to n g + g n

-- Ticket 1, refusals by user (proofs/Counters), after every list from a fresh facility.
pub record CountersCount : Type 0 where
  -- each user's counter is the number of 12s and 13s of calls whose caller that user owned, up to its own stop
  pub each : (s : List ℕ) (cs : List Call) (u : ℕ) → u < most_users
      → refusals_of (run (fresh s) cs) u ≡ min (denials_of u (past (fresh s) cs [])) most_refusals
  -- while none is at its stop, the sixteen add up to the 12s and 13s of the history
  pub total : (s : List ℕ) (cs : List Call) → ((u : ℕ) → u < most_users → refusals_of (run (fresh s) cs) u < most_refusals)
      → sum_to most_users (refusals_of (run (fresh s) cs)) ≡ denials_in (outcomes (fresh s) cs)
  -- there are sixteen
  pub sixteen : (s : List ℕ) (cs : List Call) → length (run (fresh s) cs).refusals ≡ most_users

-- the numbers that the accepted creates of a list return, in order
unfoldable pub numbers_given : Facility → List Call → List ℕ
numbers_given f [] = []
numbers_given f (c ∷ cs) =
    cond (accepted f c and is_create (action_of c.request))
    (object_number_of (query f c) ∷ numbers_given (after f c) cs) (numbers_given (after f c) cs)

-- k numbers from n on: n, n + 1, ..
unfoldable pub up_from : ℕ → ℕ → List ℕ
up_from n zero = []
up_from n (suc k) = n ∷ up_from (n + 1) k

-- questions 1 to 9, in their order, are all answered with yes
abbrev pub passes_to9 : Action → View → Call → Bool
passes_to9 k v c =
    leb c.request last_request
    and in_range k c
    and is_running k (runs_of v)
    and is_free k (runs_of v)
    and asked (is_login k) (ltb c.extra v.users)
    and asked (is_create k) (leb c.extra last_kind)
    and asked (needs_object k c.extra) (on v.target.object.live)
    and asked (needs_object k c.extra) (not (is_absent (class_in v c)))
    and asked (needs_object k c.extra) (asked (is_no_condition (class_in v c)) (open_for v c))

-- Object numbers (proofs/ObjectNumbers).
pub record ObjectNumbers : Type 0 where
  -- at most 128 are entered
  pub most : (s : List ℕ) (cs : List Call) → (run (fresh s) cs).entered ≤ most_objects
  -- an accepted create returns the next number: those of a list go up by one from the set-up's, so none is given twice
  pub rising : (s : List ℕ) (cs : List Call)
      → numbers_given (fresh s) cs ≡ up_from (fresh s).entered (length (numbers_given (fresh s) cs))
  pub entering : (s : List ℕ) (cs : List Call)
      → (run (fresh s) cs).entered ≡ (fresh s).entered + length (numbers_given (fresh s) cs)
  -- number 10 exactly where no earlier question refuses, the request is create, and not fewer than 128 are entered
  pub ten : (k : Action) (v : View) (c : Call) → eqb (number_by k v c) 10 ≡ (passes_to9 k v c and is_create k and not (ltb v.entered most_objects))

-- the records of kind k, in their order
unfoldable pub of_kind : ℕ → List SetupRecord → List SetupRecord
of_kind k [] = []
of_kind k (r ∷ rs) = cond (eqb r.kind k) (r ∷ of_kind k rs) (of_kind k rs)

-- all objects that were entered, in the order of their numbers
abbrev pub objects_entered : Facility → List Object
objects_entered f = listed f.entered every (object_of f)

-- The fresh facility, by the bytes of the set-up (proofs/FreshFacilities).
pub record FreshFacilities : Type 0 where
  -- the switches are those of the one record of kind 3; user n and object n those of the record of kind 1, and 2, with n of its kind before it
  pub switches : (s : List ℕ) → accepted_setup s ≡ true → switches_of (fresh s) ∷ [] ≡ map switches_entered (of_kind switches_record_kind (records_in s))
  pub users : (s : List ℕ) → accepted_setup s ≡ true → users_of (fresh s) ≡ map user_entered (of_kind user_record_kind (records_in s))
  pub objects : (s : List ℕ) → accepted_setup s ≡ true → objects_entered (fresh s) ≡ map object_entered (of_kind object_record_kind (records_in s))
  -- a refused set-up gives all switches off, and no user and no object
  pub refused : (s : List ℕ) → accepted_setup s ≡ false → fresh s ≡ blank all_off
  -- no process runs, nothing is open, no refusal is counted
  pub stopped : (s : List ℕ) (p : ℕ) → runs (fresh s) p ≡ false
  pub closed : (s : List ℕ) (p t : ℕ) → opens_of (fresh s) p t ≡ 0
  pub uncounted : (s : List ℕ) (u : ℕ) → refusals_of (fresh s) u ≡ 0

-- What the set-up fixes (proofs/Leaves): no call changes a switch, nor a user's clearance, role or trust.
pub record UsersStay : Type 0 where
  pub switches : (s : List ℕ) (cs : List Call) → switches_of (run (fresh s) cs) ≡ switches_of (fresh s)
  pub users : (s : List ℕ) (cs : List Call) → users_of (run (fresh s) cs) ≡ users_of (fresh s)

-- "An object's level after a list is what the set-up and the rules give it; a deleted object keeps its last" (proofs/LabelsStay).
pub record LabelsStay : Type 0 where
  -- an object of the set-up has the label of its record
  pub entered : (s : List ℕ) (cs : List Call) (t : ℕ) → t < (fresh s).entered → label_of (run (fresh s) cs) t ≡ label_of (fresh s) t
  -- a created object has the current label of its process after the call
  pub created : (s : List ℕ) (cs : List Call) (c : Call) → accepted (run (fresh s) cs) c ≡ true → is_create (action_of c.request) ≡ true
      → label_of (after (run (fresh s) cs) c) (run (fresh s) cs).entered ≡ current_of (after (run (fresh s) cs) c) c.process
  -- and no later call changes either
  pub later : (s : List ℕ) (cs ds : List Call) (t : ℕ) → t < (run (fresh s) cs).entered
      → label_of (run (run (fresh s) cs) ds) t ≡ label_of (run (fresh s) cs) t

-- g has the switches, users and live objects of f, in order, and their parents by their new numbers
pub record SameSetup (f g : Facility) : Type 0 where
  pub switches : switches_of g ≡ switches_of f
  pub users : users_of g ≡ users_of f
  pub objects : live_objects g ≡ written_objects f

-- a facility's set-up, written out and read back
pub record ReadBack (f : Facility) : Type 0 where
  pub allowed : accepted_setup (setup_bytes f) ≡ true
  pub same : SameSetup f (fresh (setup_bytes f))

-- Set-ups (proofs/RoundTrips).
pub record RoundTrips : Type 0 where
  -- a set-up that is read and written out gives the same bytes
  pub written : (s : List ℕ) → accepted_setup s ≡ true → setup_bytes (fresh s) ≡ s
  -- written out, after any list of calls from any fresh facility, and read back, it gives the same users, switches and live objects, in order
  pub read : (s : List ℕ) (cs : List Call) → ReadBack (run (fresh s) cs)
  -- 19 exactly where 15, 16 and 17 pass and an object's parent is neither none nor an earlier directory
  pub nineteen : (past : List SetupRecord) (r : SetupRecord)
      → eqb (record_number past r) 19 ≡ (fits past r and room past r and allowed past r and not (parent_fits past r))

-- What a writing into the lent buffer l answers and leaves where it holds the bytes w: 0, their length, w in front, and behind it what was there.
pub record Lent (x : Writing) (w l : List ℕ) : Type 0 where
  pub number : write_number x.outcome ≡ 0
  pub long : write_length x.outcome ≡ length w
  pub front : take (length w) x.buffer ≡ w
  pub behind : drop (length w) x.buffer ≡ drop (length w) l

-- and where it does not: 18, length 0, buffer untouched
pub record Untouched (x : Writing) (l : List ℕ) : Type 0 where
  pub number : write_number x.outcome ≡ 18
  pub long : write_length x.outcome ≡ 0
  pub buffer : x.buffer ≡ l

-- Set-ups in a caller's lent buffer (proofs/RoundTrips).
pub record LentRoundTrips : Type 0 where
  -- of every facility: what a buffer that holds it all gets, and that a shorter one gets nothing
  pub room : (f : Facility) (l : List ℕ) → length (setup_bytes f) ≤ length l → Lent (write_setup f l) (setup_bytes f) l
  pub short : (f : Facility) (l : List ℕ) → length l < length (setup_bytes f) → Untouched (write_setup f l) l
  -- a set-up that is read and written out gives the same bytes
  pub written : (s l : List ℕ) → accepted_setup s ≡ true → length s ≤ length l → Lent (write_setup (fresh s) l) s l
  -- written out, after any list of calls, and read back by the length that was returned: the same switches, users and live objects
  pub read : (s : List ℕ) (cs : List Call) (l : List ℕ) → length (setup_bytes (run (fresh s) cs)) ≤ length l
      → SameSetup (run (fresh s) cs) (fresh (take (write_length (write_setup (run (fresh s) cs) l).outcome) (write_setup (run (fresh s) cs) l).buffer))

-- Ticket 2, file flags (proofs/Inheritance).
pub record Inheritance : Type 0 where
  -- effective flags are the own ones and, with add-inherited, the parent's effective ones without no-delete
  pub effectively : (x : Objects) (t : ℕ)
      → effective x t ≡ bit_or (flags_of x t) (cond (inherits x t) (without_no_delete (effective x (parent_of x t - 1))) 0)
  -- after every list each object's parent is none or an earlier directory
  pub parents : (s : List ℕ) (cs : List Call) (t : ℕ) → t < (run (fresh s) cs).entered → (object_of (run (fresh s) cs) t).parent ≢ 0
      → ((object_of (run (fresh s) cs) t).parent - 1 < t) × ((object_of (run (fresh s) cs) ((object_of (run (fresh s) cs) t).parent - 1)).kind ≡ 1)
  -- after every list, written out and read back, each live object has the effective flags that it had
  pub kept : (s : List ℕ) (cs : List Call) (t : ℕ) → live (run (fresh s) cs) t ≡ true
      → effective (objects_in (fresh (setup_bytes (run (fresh s) cs)))) (new_number (objects_in (run (fresh s) cs)) t)
      ≡ effective (objects_in (run (fresh s) cs)) t
  -- what is created in a directory has that directory's effective flags at once, without no-delete
  pub created : (s : List ℕ) (cs : List Call) (c : Call) → accepted (run (fresh s) cs) c ≡ true → is_create (action_of c.request) ≡ true
      → in_directory c.extra ≡ true → effective (objects_in (after (run (fresh s) cs) c)) (run (fresh s) cs).entered
      ≡ bit_or add_inherited (without_no_delete (effective (objects_in (run (fresh s) cs)) c.target))
  -- an object has a flag exactly when there is an object that it comes from, whose own it is
  pub sourced : (x : Objects) (t m : ℕ) → t < most_objects → has m (effective x t) ≡ not (eqb (flag_source x t m) no_object)
  pub own : (x : Objects) (t m : ℕ) → has m (effective x t) ≡ true → has m (flags_of x (flag_source x t m)) ≡ true
  -- flags forbid what one of them forbids (proofs/Examples/FileFlags has what each does)
  pub each : (v request : ℕ) (k : Class) (kind : ℕ) → forbids v request k kind
      ≡ (has read_only v and forbids read_only request k kind or has no_execute v and forbids no_execute request k kind
      or has no_delete v and forbids no_delete request k kind or has search_only v and forbids search_only request k kind)

-- c is a signal that f accepts
pub record AcceptedSignal (f : Facility) (c : Call) : Type 0 where
  pub request : c.request ≡ send_signal_request
  pub accepted : accepted f c ≡ true

-- the owner of the receiver
abbrev pub receiver_owner : Facility → Call → ℕ
receiver_owner f c = (process_of f c.target).owner

-- f with the read mark of process p at p's current label, and nothing else changed
abbrev pub with_read_mark_raised : Facility → ℕ → Facility
with_read_mark_raised f p =
    with f f.users (users_in f) f.entered (objects_in f)
    (processes_from f.runnings f.owners f.currents (set f.readmarks p (at f.currents p)) f.writemarks f.automatics f.moves
    f.currentsets (set f.readsets p (at f.currentsets p)) f.writesets)
    f.opens f.refusals

-- the account after a call that is enforced on f
abbrev pub account_by : Account → Facility → Call → Account
account_by a f c = after_entry a (record { call = c; accepted = accepted f c })

-- Ticket 4, signals with a value (proofs/Signals): an accepted signal, from any facility and with any account.
pub record Signals : Type 0 where
  -- with MAC on, the read mark of a receiver whose owner is not trusted becomes its current label, and nothing else changes
  pub raises : (f : Facility) (c : Call) → AcceptedSignal f c → on f.mac ≡ true → trusted_user f (receiver_owner f c) ≡ false
      → after f c ≡ with_read_mark_raised f c.target
  -- with MAC off, or a receiver whose owner is trusted, nothing changes
  pub off : (f : Facility) (c : Call) → AcceptedSignal f c → on f.mac ≡ false → after f c ≡ f
  pub trusted : (f : Facility) (c : Call) → AcceptedSignal f c → trusted_user f (receiver_owner f c) ≡ true → after f c ≡ f
  -- with MAC on, a sender whose owner is not trusted has the receiver's current label
  pub level : (f : Facility) (c : Call) → AcceptedSignal f c → on f.mac ≡ true → trusted_user f (owner_in f c) ≡ false
      → (process_of f c.process).current ≡ (process_of f c.target).current
  -- the receiver holds what it held and what the sender held; every other process and every object hold what they held
  pub receiver : (a : Account) (f : Facility) (c : Call) → AcceptedSignal f c
      → (account_by a f c).processes c.target ≡ union (a.processes c.target) (a.processes c.process)
  pub others : (a : Account) (f : Facility) (c : Call) → AcceptedSignal f c → (p : ℕ) → p ≢ c.target
      → (account_by a f c).processes p ≡ a.processes p
  pub objects : (a : Account) (f : Facility) (c : Call) → AcceptedSignal f c → (account_by a f c).objects ≡ a.objects

-- Ticket 5, how often a level moves (proofs/MovesCounted), of each process that runs after a list from a fresh facility.
pub record Moves : Type 0 where
  -- the number that it carries is that of the moves in its history
  pub counted : (s : List ℕ) (cs : List Call) (p : ℕ) → runs (run (fresh s) cs) p ≡ true
      → (process_of (run (fresh s) cs) p).moves ≡ moves_of (past (fresh s) cs []) p
  -- these are at most one more than the rank of the clearance, by the set-up, of the user who owns it, by the history
  pub bounded : (s : List ℕ) (cs : List Call) (p : ℕ) → runs (run (fresh s) cs) p ≡ true
      → moves_of (past (fresh s) cs []) p ≤ moves_bound (clearance_of (fresh s) (owner_after (past (fresh s) cs []) p))
  -- and so is the number that it carries
  pub most : (s : List ℕ) (cs : List Call) (p : ℕ) → runs (run (fresh s) cs) p ≡ true
      → (process_of (run (fresh s) cs) p).moves ≤ moves_bound (clearance_of (fresh s) (owner_after (past (fresh s) cs []) p))
