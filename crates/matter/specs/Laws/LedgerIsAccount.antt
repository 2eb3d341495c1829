-- The account in words is document 01's account, step by step.
use Rattle.std.specs.Prelude.{ℕ, ◌+◌, ◌*◌, ◌<◌, zero, suc, ◌≤◌, min, ◌≡◌, refl, List, [], ◌∷◌, true, Bool, false, cond, length, set, replicate, ltb, eqb}
use Rattle.std.proofs.Math.Path.{fun_ext}
use Rattle.std.proofs.Common.{sym, ap, ◌∙◌, length-set, get_or-set_same, get_or-set_other, arith, eq-eqb, ne_eqb, lt-ltb, ltb-true, ltb-false, le-ltb}
use Rattle.std.proofs.lemmas.List.{length-replicate}
use Rattle.rules.proofs.Sound.{at_zeros}
use Rattle.opens.specs.Opens.{most_objects, most_processes}
use Rattle.matter.specs.declared.Ledger.{Ledger}
use Rattle.rules.specs.Matter.{Set, put, Account, assign, union, process_gains, object_gains, nothing, enter, takes, gives, carry, carry_by, after_entry}
use Rattle.rules.specs.Matter.{account, only, start}
use Rattle.rules.specs.Histories.{Entry}
use Rattle.matter.specs.declared.Members.{Members}
use Rattle.matter.specs.LedgerSteps.{is_member, held_by, put_members, account_of, with_process, with_object, merged_of, members_in, process_gains_of}
use Rattle.matter.specs.LedgerSteps.{object_gains_of, received_of, no_members, assigned_nothing_of, copied_of, with_kind, only_member, entered_of}
use Rattle.matter.specs.LedgerSteps.{by_class, created_of}
use Rattle.matter.specs.LedgerSteps.{on_object_of, carried_of, step_of, selves, start_of}
use Rattle.labels.proofs.Laws.Decisions.{by_eq, by_test}
use Rattle.matter.specs.Laws.BitRows.{row_same, row_other, member_merged, member_none, length_put, member_only}
use Rattle.labels.specs.Decisions.{at}
use Rattle.state.specs.declared.Call.{Call}
use Rattle.rules.specs.declared.Action.{Action}
use Rattle.rules.specs.Requests.{is_clone, is_send_signal, is_create, needs_object, action_of, in_directory, class_of}
use Rattle.rules.specs.declared.Class.{Class}
use Rattle.rules.specs.declared.Action.TheVariants.{Create, Login, Clone, SendSignal, SetLevel, Terminate, OnObject, Unknown}
use Rattle.matter.specs.AfterCalls.{ledger_after}
use Rattle.state.specs.declared.Facility.{Facility}
use Rattle.state.specs.State.{object_in}

-- the arrays of a ledger have their lengths
pub record Sized (l : Ledger) : Type 0 where
  pub kinds : length l.kinds ≡ most_objects
  pub objects : length l.objects ≡ 256
  pub processes : length l.processes ≡ 64

-- a set as the paper's, and the rows of words as a family of sets
abbrev pub set_of : Members → Set
set_of s c = is_member s c

abbrev pub sets_of : List ℕ → ℕ → Set
sets_of words r c = held_by words r c

-- a store of a set is a member of the family replaced
held_put : (words : List ℕ) (d : ℕ) (s : Members) (r c : ℕ) → 2 * d + 1 < length words
    → held_by (put_members words d s) r c ≡ put (sets_of words) d (set_of s) r c
unfolding held_by
held_put words d s r c h =
    by_eq d r
    (λ p. rw (eq-eqb d r p, ← p, row_same words d s h))
    (λ n. rw (ne_eqb d r n, row_other words d s r n))

sets_put : (words : List ℕ) (d : ℕ) (s : Members) → 2 * d + 1 < length words → sets_of (put_members words d s) ≡ put (sets_of words) d (set_of s)
sets_put words d s h = fun_ext (λ r. fun_ext (λ c. held_put words d s r c h))

kinds_put : (kinds : List ℕ) (n e t : ℕ) → n < length kinds → at (set kinds n e) t ≡ put (λ i. at kinds i) n e t
kinds_put kinds n e t h =
    by_eq n t
    (λ p. rw (eq-eqb n t p, ← p) (get_or-set_same kinds n e 0 h))
    (λ m. rw (ne_eqb n t m) (get_or-set_other kinds n t e 0 (λ q. m (sym q))))

-- an account with other objects
unfoldable pub give : Account → ℕ → Set → Account
give a t s = record { next = a.next; kinds = a.kinds; objects = put a.objects t s; processes = a.processes }

pub process_put : (l : Ledger) (p : ℕ) (s : Members) → Sized l → p < most_processes
    → account_of (with_process l p s) ≡ assign (account_of l) p (set_of s)
unfolding account_of with_process assign
process_put l p s z h =
    let n = z.processes in
    ap (λ (f : ℕ → Set). record { next = l.next; kinds = λ t. at l.kinds t; objects = sets_of l.objects; processes = f })
    (sets_put l.processes p s (omega arith))

pub object_put : (l : Ledger) (t : ℕ) (s : Members) → Sized l → t < most_objects
    → account_of (with_object l t s) ≡ give (account_of l) t (set_of s)
unfolding account_of with_object give
object_put l t s z h =
    let n = z.objects in
    ap (λ (f : ℕ → Set). record { next = l.next; kinds = λ t. at l.kinds t; objects = f; processes = sets_of l.processes })
    (sets_put l.objects t s (omega arith))

set_merged : (s t : Members) → set_of (merged_of s t) ≡ union (set_of s) (set_of t)
set_merged s t = fun_ext (λ c. member_merged s t c)

pub process_gains_law : (l : Ledger) (p t : ℕ) → Sized l → p < most_processes
    → account_of (process_gains_of l p t) ≡ process_gains (account_of l) p t
unfolding process_gains_of process_gains assign account_of held_by
process_gains_law l p t z h =
    process_put l p _ z h
    ∙ ap (assign (account_of l) p) (set_merged (members_in l.processes p) (members_in l.objects t))

pub object_gains_law : (l : Ledger) (p t : ℕ) → Sized l → t < most_objects
    → account_of (object_gains_of l p t) ≡ object_gains (account_of l) p t
unfolding object_gains_of object_gains give account_of held_by
object_gains_law l p t z h =
    object_put l t _ z h
    ∙ ap (give (account_of l) t) (set_merged (members_in l.objects t) (members_in l.processes p))

pub signal_received : (l : Ledger) (p t : ℕ) → Sized l → t < most_processes
    → account_of (received_of l p t) ≡ assign (account_of l) t (union ((account_of l).processes t) ((account_of l).processes p))
unfolding received_of assign account_of held_by
signal_received l p t z h =
    process_put l t _ z h
    ∙ ap (assign (account_of l) t) (set_merged (members_in l.processes t) (members_in l.processes p))

pub nothing_assigned : (l : Ledger) (p : ℕ) → Sized l → p < most_processes
    → account_of (assigned_nothing_of l p) ≡ assign (account_of l) p nothing
unfolding assigned_nothing_of
nothing_assigned l p z h = process_put l p no_members z h ∙ ap (assign (account_of l) p) (fun_ext (λ c. member_none c))

pub set_copied : (l : Ledger) (p t : ℕ) → Sized l → p < most_processes → t < most_processes
    → account_of (copied_of l p t) ≡ assign (account_of l) t ((account_of l).processes p)
unfolding copied_of assign account_of held_by
set_copied l p t z k h = rw (lt-ltb p most_processes k) (process_put l t (members_in l.processes p) z h)

-- the account in which n has kind e, and n + 1 is the next number
kinded : Account → ℕ → ℕ → Account
kinded a n e = record { next = n + 1; kinds = put a.kinds n e; objects = a.objects; processes = a.processes }

kind_put : (l : Ledger) (n e : ℕ) → Sized l → n < most_objects → account_of (with_kind l n e) ≡ kinded (account_of l) n e
unfolding account_of with_kind kinded
kind_put l n e z h =
    let m = z.kinds in
    let b : n < length l.kinds = omega arith in
    ap (λ (f : ℕ → ℕ). record { next = n + 1; kinds = f; objects = sets_of l.objects; processes = sets_of l.processes })
    (fun_ext (λ t. kinds_put l.kinds n e t b))

-- The lengths stay.
pub sized_process : (l : Ledger) (p : ℕ) (s : Members) → Sized l → Sized (with_process l p s)
unfolding with_process
sized_process l p s z =
    record { kinds = z.kinds; objects = z.objects; processes = length_put l.processes p s ∙ z.processes }

pub sized_object : (l : Ledger) (t : ℕ) (s : Members) → Sized l → Sized (with_object l t s)
unfolding with_object
sized_object l t s z =
    record { kinds = z.kinds; objects = length_put l.objects t s ∙ z.objects; processes = z.processes }

pub sized_kind : (l : Ledger) (n e : ℕ) → Sized l → Sized (with_kind l n e)
unfolding with_kind
sized_kind l n e z =
    record { kinds = length-set l.kinds n e ∙ z.kinds; objects = z.objects; processes = z.processes }

pub object_entered_law : (l : Ledger) (e : ℕ) → Sized l → l.next < most_objects → account_of (entered_of l e) ≡ enter (account_of l) e
unfolding entered_of enter kinded give account_of
object_entered_law l e z h =
    rw (lt-ltb l.next most_objects h)
    (kind_put (with_object l l.next (only_member l.next)) l.next e (sized_object l l.next _ z) h
    ∙ ap (λ (a : Account). kinded a l.next e)
    (object_put l l.next (only_member l.next) z h
    ∙ ap (give (account_of l) l.next) (fun_ext (λ c. member_only l.next c h))))

-- Calls. What an accepted call guarantees of its numbers, by what it acts on.
pub record Allowed (k : Action) (l : Ledger) (c : Call) : Type 0 where
  pub caller : c.process < most_processes
  pub cloned : is_clone k ≡ true → c.target < most_processes
  pub signalled : is_send_signal k ≡ true → c.target < most_processes
  pub object : needs_object k c.extra ≡ true → c.target < most_objects
  pub number : is_create k ≡ true → l.next < most_objects

abbrev pub InRange : Ledger → Call → Type 0
InRange l c = Allowed (action_of c.request) l c

by_class_law : (k : Class) (l : Ledger) (c : Call) → Sized l → c.process < most_processes → c.target < most_objects
    → account_of (by_class k l c) ≡ carry k (account_of l) c
unfolding by_class carry
by_class_law k l c z p t =
    by_test (takes c.request k) (λ a. rw a (process_gains_law l c.process c.target z p))
    (λ a. by_test (gives c.request k) (λ b. rw (a, b) (object_gains_law l c.process c.target z t)) (λ b. rw (a, b)))

created : (l : Ledger) (c : Call) → Sized l → Allowed Create l c → account_of (created_of l c) ≡ carry_by Create (account_of l) c
unfolding created_of carry_by object_gains_of with_object
created l c z h =
    by_test (in_directory c.extra)
    (λ a.
    let g = object_gains_of l c.process c.target in
    rw a
    (object_entered_law g c.extra (sized_object l c.target _ z) (h.number refl)
    ∙ ap (λ (x : Account). enter x c.extra) (object_gains_law l c.process c.target z (h.object a))))
    (λ a. rw a (object_entered_law l c.extra z (h.number refl)))

pub call_carried : (k : Action) (l : Ledger) (c : Call) → Sized l → Allowed k l c → account_of (carried_of k l c) ≡ carry_by k (account_of l) c
unfolding carry_by on_object_of account_of
call_carried Login l c z h = nothing_assigned l c.process z h.caller
call_carried Clone l c z h = set_copied l c.process c.target z h.caller (h.cloned refl)
call_carried SendSignal l c z h = signal_received l c.process c.target z (h.signalled refl)
call_carried SetLevel l c z h = refl
call_carried Terminate l c z h = refl
call_carried Create l c z h = created l c z h
call_carried Unknown l c z h = refl
call_carried OnObject l c z h = by_class_law (class_of c.request (at l.kinds c.target)) l c z h.caller (h.object refl)

-- one call
pub stepped : (l : Ledger) (c : Call) (b : Bool) → Sized l → (b ≡ true → InRange l c)
    → account_of (step_of l c b) ≡ after_entry (account_of l) (record { call = c; accepted = b })
unfolding step_of after_entry
stepped l c true z h = call_carried (action_of c.request) l c z (h refl)
stepped l c false z h = refl

-- The lengths stay over a call.
sized_entered : (l : Ledger) (e : ℕ) → Sized l → Sized (entered_of l e)
unfolding entered_of
sized_entered l e z =
    by_test (ltb l.next most_objects)
    (λ a. rw a (sized_kind _ l.next e (sized_object l l.next (only_member l.next) z)))
    (λ a. rw a z)

sized_carried : (k : Action) (l : Ledger) (c : Call) → Sized l → Sized (carried_of k l c)
unfolding assigned_nothing_of copied_of received_of created_of on_object_of by_class process_gains_of object_gains_of
sized_carried Login l c z = sized_process l c.process no_members z
sized_carried Clone l c z =
    by_test (ltb c.process most_processes) (λ a. rw a (sized_process l c.target _ z)) (λ a. rw a z)
sized_carried SendSignal l c z = sized_process l c.target _ z
sized_carried SetLevel l c z = z
sized_carried Terminate l c z = z
sized_carried Create l c z =
    by_test (in_directory c.extra)
    (λ a. rw a (sized_entered _ c.extra (sized_object l c.target _ z)))
    (λ a. rw a (sized_entered l c.extra z))
sized_carried Unknown l c z = z
sized_carried OnObject l c z =
    let k = class_of c.request (at l.kinds c.target) in
    by_test (takes c.request k) (λ a. rw a (sized_process l c.process _ z))
    (λ a. by_test (gives c.request k) (λ b. rw (a, b) (sized_object l c.target _ z)) (λ b. rw (a, b) z))

pub sized_step : (l : Ledger) (c : Call) (b : Bool) → Sized l → Sized (step_of l c b)
unfolding step_of
sized_step l c true z = sized_carried (action_of c.request) l c z
sized_step l c false z = z

pub data AllInRange : Ledger → List Entry → Type 0 where
  done : {l : Ledger} → AllInRange l []
  more : {l : Ledger} {x : Entry} {xs : List Entry} → (x.accepted ≡ true → InRange l x.call)
      → AllInRange (step_of l x.call x.accepted) xs → AllInRange l (x ∷ xs)

pub followed : (l : Ledger) (xs : List Entry) → Sized l → AllInRange l xs → account_of (ledger_after l xs) ≡ account (account_of l) xs
unfolding ledger_after account
followed l [] z r = refl
followed l (x ∷ xs) z (more h r) =
    followed (step_of l x.call x.accepted) xs (sized_step l x.call x.accepted z) r
    ∙ ap (λ (a : Account). account a xs) (stepped l x.call x.accepted z h)

-- The start.
no_row : (n r : ℕ) → members_in (replicate n 0) r ≡ no_members
unfolding members_in no_members
no_row n r = let low = at_zeros n (2 * r) in
    let high = at_zeros n (2 * r + 1) in
    λ i. record { low = low i; high = high i }

none_held : (n r c : ℕ) → held_by (replicate n 0) r c ≡ false
unfolding held_by
none_held n r c = rw (no_row n r) (member_none c)

length_selves : (n : ℕ) → length (selves n) ≡ 256
unfolding selves
length_selves zero = length-replicate {A = ℕ} 256 0
length_selves (suc n) = length_put (selves n) n (only_member n) ∙ length_selves n

selves_held : (n r c : ℕ) → n ≤ most_objects → held_by (selves n) r c ≡ cond (ltb r n) (only r) nothing c
unfolding selves
selves_held zero r c h = rw (le-ltb r 0 (omega arith)) (none_held 256 r c)
selves_held (suc n) r c h =
    let e = length_selves n in
    let b : 2 * n + 1 < length (selves n) = omega arith in
    held_put (selves n) n (only_member n) r c b
    ∙ by_eq n r
    (λ p. rw (eq-eqb n r p, lt-ltb r (suc n) (omega arith)) (member_only n c (omega arith) ∙ ap (λ (x : ℕ). eqb x c) p))
    (λ m. by_test (ltb r n)
    (λ q. let k = ltb-true r n q in rw (ne_eqb n r m, lt-ltb r (suc n) (omega arith)) (selves_held n r c (omega arith) ∙ rw q))
    (λ q. let k = ltb-false r n q in rw (ne_eqb n r m, le-ltb r (suc n) (omega arith)) (selves_held n r c (omega arith) ∙ rw q)))

pub started : (f : Facility) → f.entered ≤ most_objects → account_of (start_of f.entered f.kinds) ≡ start f
unfolding account_of start_of start object_in
started f h =
    let n : min f.entered most_objects ≡ f.entered = omega arith in
    let objects : sets_of (selves (min f.entered most_objects)) ≡ (λ t. cond (ltb t f.entered) (only t) nothing) =
    ap (λ (m : ℕ). sets_of (selves m)) n ∙ fun_ext (λ r. fun_ext (λ c. selves_held f.entered r c h)) in
    let processes : sets_of (replicate 64 0) ≡ (λ p. nothing) = fun_ext (λ r. fun_ext (λ c. none_held 64 r c)) in
    λ i. record { next = f.entered; kinds = λ t. at f.kinds t; objects = objects i; processes = processes i }

pub sized_start : (n : ℕ) (kinds : List ℕ) → length kinds ≡ most_objects → Sized (start_of n kinds)
unfolding start_of
sized_start n kinds e = record { kinds = e; objects = length_selves (min n most_objects); processes = length-replicate {A = ℕ} 64 0 }
