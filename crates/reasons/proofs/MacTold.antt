-- MAC's answer is told by the conditions of MAC that failed.
use Rattle.std.specs.Prelude.{ℕ, ◌≡◌, refl, Bool, true, false, not, cond, leb, eqb}
use Rattle.std.proofs.Common.{sym}
use Rattle.labels.specs.declared.Label.{Label}
use Rattle.labels.specs.Decisions.{◌and◌, ◌or◌, asked, on}
use Rattle.labels.specs.Labels.{given, leq, same, join}
use Rattle.labels.proofs.Laws.Decisions.{clash, by_test}
use Rattle.answers.specs.declared.Answer.{Answer}
use Rattle.answers.specs.declared.Answer.TheVariants.{Granted}
use Rattle.answers.specs.Answers.{is_not_granted, is_undefined, grant}
use Rattle.state.specs.declared.Call.{Call}
use Rattle.state.specs.declared.Object.{Object}
use Rattle.state.specs.declared.Process.{Process}
use Rattle.state.specs.declared.User.{User}
use Rattle.state.specs.State.{is_automatic}
use Rattle.rules.specs.declared.Action.{Action}
use Rattle.rules.specs.declared.Action.TheVariants.{Login, Clone, SendSignal, SetLevel, Terminate, Create, OnObject, Unknown}
use Rattle.rules.specs.declared.Class.{Class}
use Rattle.rules.specs.declared.Class.TheVariants.{Absent, Reads, Writes, Both, NoCondition}
use Rattle.rules.specs.declared.View.{View}
use Rattle.rules.specs.Requests.{action_of, action_code, unknown_code, is_absent, last_request, in_directory, needs_object}
use Rattle.rules.specs.Modules.{class_in, wanted, may_read, may_write, may_set, mac_class, mac_object, mac_signal, mac_rule, mac_answer}
use Rattle.reasons.specs.Reasons.{MacFailed, nothing_of_mac, unless, read_failed, write_failed, set_failed, class_failed, object_failed, signal_failed}
use Rattle.reasons.specs.Reasons.{alone_failed, mac_failed}

abbrev pub refusing : MacFailed → Bool
refusing m = m.fixed or m.readmark or m.writemark or m.clearance or m.receiver

pub record Tells (a : Answer) (m : MacFailed) : Type 0 where
  pub unset : is_undefined a ≡ m.unset
  pub refuses : is_not_granted a ≡ refusing m

-- held, or all that is asked holds: exactly where nothing failed
all_asked : (h a o u d : Bool) → (h or (a and o and u and d)) ≡ not (refusing (unless h a o u d))
unfolding unless ◌and◌ ◌or◌
all_asked true a o u d = refl
all_asked false false o u d = refl
all_asked false true false u d = refl
all_asked false true true false d = refl
all_asked false true true true false = refl
all_asked false true true true true = refl

grant_undefined : (b : Bool) → is_undefined (grant b) ≡ false
unfolding grant
grant_undefined true = refl
grant_undefined false = refl

grant_refuses : (b s : Bool) → b ≡ not s → is_not_granted (grant b) ≡ s
unfolding grant
grant_refuses true true h = clash refl h
grant_refuses true false h = refl
grant_refuses false true h = refl
grant_refuses false false h = sym h

granted : Tells Granted nothing_of_mac
unfolding ◌or◌
granted = record { unset = refl; refuses = refl }

reads : (l : Label) (r : Process) (clr : Label) → Tells (grant (may_read l r clr)) (read_failed l r clr)
unfolding may_read read_failed unless ◌and◌ ◌or◌
reads l r clr =
    record {
      unset = grant_undefined _;
      refuses = grant_refuses _ _
          (all_asked (leq l r.current) (is_automatic r) true (leq (join r.current l) r.writemark) (leq (join r.current l) clr));
    }

writes : (l : Label) (r : Process) (clr : Label) → Tells (grant (may_write l r clr)) (write_failed l r clr)
unfolding may_write write_failed unless
writes l r clr =
    record {
      unset = grant_undefined _;
      refuses = grant_refuses _ _ (all_asked (same l r.current) (is_automatic r) (leq r.readmark l) (leq l r.writemark) (leq l clr));
    }

sets : (l : Label) (r : Process) (clr : Label) → Tells (grant (may_set l r clr)) (set_failed l r clr)
unfolding may_set set_failed unless ◌and◌ ◌or◌
sets l r clr =
    record {
      unset = grant_undefined _;
      refuses = grant_refuses _ _ (all_asked false true (leq r.readmark l) (leq l r.writemark) (leq l clr));
    }

-- a class that the kind has
class : (k : Class) (l : Label) (r : Process) (clr : Label) → not (is_absent k) ≡ true → Tells (mac_class k l r clr) (class_failed k l r clr)
unfolding mac_class class_failed
class Absent l r clr h = clash h refl
class Reads l r clr h = reads l r clr
class Writes l r clr h = writes l r clr
class Both l r clr h = writes l r clr
class NoCondition l r clr h = granted

object : (k : Class) (o : Object) (r : Process) (u : User) → not (is_absent k) ≡ true → Tells (mac_object k o r u) (object_failed k o r u)
unfolding mac_object object_failed ◌or◌
object k o r u h =
    by_test (given o.label)
    (λ g. by_test (on u.trusted) (λ t. rw (g, t) granted) (λ t. rw (g, t) (class k o.label r u.clearance h)))
    (λ g. rw g (record { unset = refl; refuses = refl }))

equal_told : (b : Bool) → b ≡ not (refusing (record { unset = false; fixed = false; clearance = false; writemark = false; readmark = false; receiver = not b }))
unfolding ◌or◌
equal_told true = refl
equal_told false = refl

signal : (r : Process) (u : User) (receiver : Process) → Tells (mac_signal r u receiver) (signal_failed r u receiver)
unfolding mac_signal signal_failed
signal r u receiver = record { unset = grant_undefined _; refuses = grant_refuses _ _ (equal_told _) }

-- a request that is one, on an object whose kind has it where an object is needed
rule : (k : Action) (v : View) (c : Call) → eqb (action_code k) unknown_code ≡ false
    → asked (needs_object k c.extra) (not (is_absent (class_in v c))) ≡ true
    → Tells (mac_rule k v c)
    (cond (needs_object k c.extra) (object_failed (class_in v c) v.target.object v.caller v.owner) (alone_failed k v c))
unfolding mac_rule alone_failed
rule Login v c n h = granted
rule Clone v c n h = granted
rule SendSignal v c n h = signal v.caller v.owner v.target.receiver
rule SetLevel v c n h = sets (wanted c) v.caller v.owner.clearance
rule Terminate v c n h = granted
rule Create v c n h =
    by_test (in_directory c.extra)
    (λ i. rw i (object (class_in v c) v.target.object v.caller v.owner (rw i at h))) (λ i. rw i granted)
rule OnObject v c n h = object (class_in v c) v.target.object v.caller v.owner h
rule Unknown v c n h = clash refl n

known : (r : ℕ) → leb r last_request ≡ true → eqb (action_code (action_of r)) unknown_code ≡ false
unfolding action_of
known r h =
    rw h
    (by_test (eqb r 2) (λ e. rw e) (λ e2. rw e2
    (by_test (eqb r 4) (λ e. rw e) (λ e4. rw e4
    (by_test (eqb r 16) (λ e. rw e) (λ e16. rw e16
    (by_test (eqb r 17) (λ e. rw e) (λ e17. rw e17
    (by_test (eqb r 18) (λ e. rw e) (λ e18. rw e18 (by_test (eqb r 21) (λ e. rw e) (λ e21. rw e21))))))))))))

pub mac_told : (v : View) (c : Call) → leb c.request last_request ≡ true
    → asked (needs_object (action_of c.request) c.extra) (not (is_absent (class_in v c))) ≡ true
    → Tells (mac_answer (action_of c.request) v c) (mac_failed (action_of c.request) v c)
unfolding mac_answer mac_failed ◌or◌
mac_told v c n h =
    by_test (on v.switches.mac)
    (λ m. rw m (rule (action_of c.request) v c (known c.request n) h)) (λ m. rw m (record { unset = refl; refuses = refl }))
