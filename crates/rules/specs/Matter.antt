-- "Matter": the account, worked out from the set-up and, of each call, the four bytes and whether its number is 0.
use Rattle.std.specs.Prelude.{ℕ, ◌+◌, Bool, false, cond, not, List, [], ◌∷◌, eqb, ltb}
use Rattle.labels.specs.Decisions.{◌or◌, ◌and◌}
use Rattle.rules.specs.Types.{Facility, Call}
use Rattle.state.specs.State.{object_of}
use Rattle.rules.specs.Requests.{Class, Absent, Reads, Writes, Both, NoCondition, Action, Login, Clone, SendSignal, SetLevel, Terminate, Create}
use Rattle.rules.specs.Requests.{OnObject, Unknown, class_of, in_directory, action_of}
use Rattle.rules.specs.Requests.{create_request, delete_request, read_request, read_open_request, write_request, write_open_request}
use Rattle.rules.specs.Histories.{Entry, history}
use Rattle.rules.specs.Setup.{fresh}

-- a set of object numbers
abbrev pub Set : Type 0
Set = ℕ → Bool

abbrev pub nothing : Set
nothing c = false

abbrev pub only : ℕ → Set
only x c = eqb x c

abbrev pub union : Set → Set → Set
union s t c = s c or t c

-- a family with the member at i replaced
abbrev pub put : {A : Type 0} → (ℕ → A) → ℕ → A → ℕ → A
put s i v j = cond (eqb i j) v (s j)

-- a kind for each object number, and for each object and each process number a set of object numbers
pub record Account : Type 0 where
  pub next : ℕ
  pub kinds : ℕ → ℕ
  pub objects : ℕ → Set
  pub processes : ℕ → Set

-- at the start each object of the set-up has its kind and holds itself, and each process number holds nothing
unfoldable pub start : Facility → Account
start f =
    record {
      next = f.entered;
      kinds = λ t. (object_of f t).kind;
      objects = λ t. cond (ltb t f.entered) (only t) nothing;
      processes = λ p. nothing;
    }

-- p gains what t holds
unfoldable pub process_gains : Account → ℕ → ℕ → Account
process_gains a p t =
    record {
      next = a.next;
      kinds = a.kinds;
      objects = a.objects;
      processes = put a.processes p (union (a.processes p) (a.objects t));
    }

-- t gains what p holds
unfoldable pub object_gains : Account → ℕ → ℕ → Account
object_gains a p t =
    record {
      next = a.next;
      kinds = a.kinds;
      objects = put a.objects t (union (a.objects t) (a.processes p));
      processes = a.processes;
    }

-- p's set becomes s
unfoldable pub assign : Account → ℕ → Set → Account
assign a p s =
    record { next = a.next; kinds = a.kinds; objects = a.objects; processes = put a.processes p s }

-- the next object number gets kind e and holds itself
unfoldable pub enter : Account → ℕ → Account
enter a e =
    record {
      next = a.next + 1;
      kinds = put a.kinds a.next e;
      objects = put a.objects a.next (only a.next);
      processes = a.processes;
    }

-- read of a file or channel, and every R but read-open
abbrev pub takes : ℕ → Class → Bool
takes r Absent = false
takes r Reads = not (eqb r read_open_request)
takes r Writes = false
takes r Both = false
takes r NoCondition = eqb r read_request

-- write, and every W but write-open, delete and create, which `carry_by` has
abbrev pub gives : ℕ → Class → Bool
gives r Absent = false
gives r Reads = false
gives r Writes = not (eqb r write_open_request) and not (eqb r delete_request) and not (eqb r create_request)
gives r Both = false
gives r NoCondition = eqb r write_request

-- an accepted request on an object, of class k
unfoldable pub carry : Class → Account → Call → Account
carry k a c =
    cond (takes c.request k) (process_gains a c.process c.target)
    (cond (gives c.request k) (object_gains a c.process c.target) a)

-- an accepted call
unfoldable pub carry_by : Action → Account → Call → Account
carry_by Login a c = assign a c.process nothing
carry_by Clone a c = assign a c.target (a.processes c.process)
carry_by SendSignal a c = assign a c.target (union (a.processes c.target) (a.processes c.process))
carry_by SetLevel a c = a
carry_by Terminate a c = a
carry_by Create a c =
    cond (in_directory c.extra) (enter (object_gains a c.process c.target) c.extra) (enter a c.extra)
carry_by Unknown a c = a
carry_by OnObject a c = carry (class_of c.request (a.kinds c.target)) a c

-- a refused call changes nothing
unfoldable pub after_entry : Account → Entry → Account
after_entry a x = cond x.accepted (carry_by (action_of x.call.request) a x.call) a

unfoldable pub account : Account → List Entry → Account
account a [] = a
account a (x ∷ xs) = account (after_entry a x) xs

-- the account after a list of calls from the fresh facility of a set-up
abbrev pub account_after : List ℕ → List Call → Account
account_after s cs = account (start (fresh s)) (history (fresh s) cs)

-- after the list, object b holds the matter of a
abbrev pub holds : List ℕ → List Call → ℕ → ℕ → Bool
holds s cs b a = (account_after s cs).objects b a
