-- The account of matter as bits of words: what a call does to it.
use Rattle.std.specs.Prelude.{ℕ, ◌/◌, ◌%◌, ◌^◌, ◌-◌, ◌+◌, ◌*◌, zero, suc, min, Bool, false, cond, List, eqb, ltb, set, replicate}
use Rattle.std.specs.Int.Bits.{bit_or}
use Rattle.opens.specs.Opens.{most_objects, most_processes}
use Rattle.matter.specs.declared.Members.{Members}
use Rattle.labels.specs.Decisions.{at}
use Rattle.rules.specs.Matter.{Account, takes, gives}
use Rattle.matter.specs.declared.Ledger.{Ledger}
use Rattle.state.specs.declared.Call.{Call}
use Rattle.rules.specs.Requests.{in_directory, class_of, action_of}
use Rattle.rules.specs.declared.Class.{Class}
use Rattle.rules.specs.declared.Action.{Action}
use Rattle.rules.specs.declared.Action.TheVariants.{Login, Clone, SendSignal, SetLevel, Terminate, Create, OnObject, Unknown}

-- bits in a word
abbrev pub per_word : ℕ
per_word = 64

-- bit c of a word
unfoldable pub bit : ℕ → ℕ → Bool
bit w c = eqb (w / 2 ^ c % 2) 1

-- Sets of object numbers.
unfoldable pub is_member : Members → ℕ → Bool
is_member s c = cond (ltb c per_word) (bit s.low c) (cond (ltb c most_objects) (bit s.high (c - per_word)) false)

unfoldable pub no_members : Members
no_members = record { low = 0; high = 0 }

unfoldable pub only_member : ℕ → Members
only_member c =
    cond (ltb c per_word) (record { low = 2 ^ c; high = 0 })
    (cond (ltb c most_objects) (record { low = 0; high = 2 ^ (c - per_word) }) no_members)

unfoldable pub merged_of : Members → Members → Members
merged_of s t = record { low = bit_or s.low t.low; high = bit_or s.high t.high }

-- Rows of words: the set in row r, the words with another set there, and whether row r holds c.
unfoldable pub members_in : List ℕ → ℕ → Members
members_in words r = record { low = at words (2 * r); high = at words (2 * r + 1) }

unfoldable pub put_members : List ℕ → ℕ → Members → List ℕ
put_members words r s = set (set words (2 * r) s.low) (2 * r + 1) s.high

unfoldable pub held_by : List ℕ → ℕ → ℕ → Bool
held_by words r c = is_member (members_in words r) c

-- the account of the paper that a ledger stands for
unfoldable pub account_of : Ledger → Account
account_of l =
    record {
      next = l.next;
      kinds = λ t. at l.kinds t;
      objects = λ t c. held_by l.objects t c;
      processes = λ p c. held_by l.processes p c;
    }

-- the words of objects of which each below n holds itself
unfoldable pub selves : ℕ → List ℕ
selves zero = replicate 256 0
selves (suc n) = put_members (selves n) n (only_member n)

unfoldable pub start_of : ℕ → List ℕ → Ledger
start_of n kinds =
    record { next = n; kinds = kinds; objects = selves (min n most_objects); processes = replicate 64 0 }

unfoldable pub with_object : Ledger → ℕ → Members → Ledger
with_object l x s =
    record { next = l.next; kinds = l.kinds; objects = put_members l.objects x s; processes = l.processes }

unfoldable pub with_process : Ledger → ℕ → Members → Ledger
with_process l p s =
    record { next = l.next; kinds = l.kinds; objects = l.objects; processes = put_members l.processes p s }

-- p gains what t holds, and t what p holds
unfoldable pub process_gains_of : Ledger → ℕ → ℕ → Ledger
process_gains_of l p t = with_process l p (merged_of (members_in l.processes p) (members_in l.objects t))

unfoldable pub object_gains_of : Ledger → ℕ → ℕ → Ledger
object_gains_of l p t = with_object l t (merged_of (members_in l.objects t) (members_in l.processes p))

-- t gains what p holds, both processes
unfoldable pub received_of : Ledger → ℕ → ℕ → Ledger
received_of l p t = with_process l t (merged_of (members_in l.processes t) (members_in l.processes p))

-- login, clone and create
unfoldable pub assigned_nothing_of : Ledger → ℕ → Ledger
assigned_nothing_of l p = with_process l p no_members

unfoldable pub copied_of : Ledger → ℕ → ℕ → Ledger
copied_of l p t = cond (ltb p most_processes) (with_process l t (members_in l.processes p)) l

-- the ledger in which n has kind e, and n + 1 is the next number
unfoldable pub with_kind : Ledger → ℕ → ℕ → Ledger
with_kind l n e = record { next = n + 1; kinds = set l.kinds n e; objects = l.objects; processes = l.processes }

unfoldable pub entered_of : Ledger → ℕ → Ledger
entered_of l e = cond (ltb l.next most_objects) (with_kind (with_object l l.next (only_member l.next)) l.next e) l

unfoldable pub created_of : Ledger → Call → Ledger
created_of l c =
    cond (in_directory c.extra) (entered_of (object_gains_of l c.process c.target) c.extra) (entered_of l c.extra)

-- a request on an object, of class k
unfoldable pub by_class : Class → Ledger → Call → Ledger
by_class k l c =
    cond (takes c.request k) (process_gains_of l c.process c.target)
    (cond (gives c.request k) (object_gains_of l c.process c.target) l)

unfoldable pub on_object_of : Ledger → Call → Ledger
on_object_of l c = by_class (class_of c.request (at l.kinds c.target)) l c

-- an accepted call, and a call
abbrev pub carried_of : Action → Ledger → Call → Ledger
carried_of Login l c = assigned_nothing_of l c.process
carried_of Clone l c = copied_of l c.process c.target
carried_of SendSignal l c = received_of l c.process c.target
carried_of SetLevel l c = l
carried_of Terminate l c = l
carried_of Create l c = created_of l c
carried_of Unknown l c = l
carried_of OnObject l c = on_object_of l c

unfoldable pub step_of : Ledger → Call → Bool → Ledger
step_of l c b = cond b (carried_of (action_of c.request) l c) l
