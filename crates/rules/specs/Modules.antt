-- "What the modules answer": MAC, FC, SIM and FF on what a call looks at, and MAC's moves of the caller and of a signal's receiver.
pub use Rattle.rules.specs.declared.View.{View}
pub use Rattle.rules.specs.declared.Target.{Target}
pub use Rattle.rules.specs.declared.Looked.{Looked}
use Rattle.std.specs.Prelude.{ℕ, Bool, not, cond, eqb}
use Rattle.rules.specs.Types.{Answer, NotCared, Granted, NotGranted, Undefined, Answers, Call, Process, User, Object, Facility}
use Rattle.labels.specs.Decisions.{◌and◌, ◌or◌, on}
use Rattle.answers.specs.Outcomes.{answers_from}
use Rattle.state.specs.State.{switches_of, objects_in, process_of, object_of, user_of, is_automatic, opens_of, with_levels, most_moves, one_more}
use Rattle.labels.specs.Labels.{unset, Label, label, leq, same, join, meet, given}
use Rattle.answers.specs.Answers.{grant}
use Rattle.rules.specs.FileFlags.{effective, forbids}
use Rattle.rules.specs.Requests.{Action, Login, Clone, SendSignal, SetLevel, Terminate, Create, OnObject, Unknown, Class, Absent, Reads, Writes}
use Rattle.rules.specs.Requests.{Both, NoCondition, class_of, alters, in_directory, needs_object, write_request}

-- the target of process p: t as a process and as an object, how p has it open, and the owner of t as a process
abbrev pub target_of : Facility → ℕ → ℕ → Target
target_of f p t =
    record {
      receiver = process_of f t;
      object = object_of f t;
      opens = opens_of f p t;
      owner = user_of f (process_of f t).owner;
    }

-- what FF looks at, where it is on
abbrev pub flags_seen : Facility → ℕ → ℕ
flags_seen f t = cond (on f.ff) (effective (objects_in f) t) 0

-- what the modules look up in tables for a call
abbrev pub looked_of : Facility → Call → Looked
looked_of f c = record { flags = flags_seen f c.target }

-- what a call looks at
abbrev pub view_of : Facility → Call → View
view_of f c =
    record {
      switches = switches_of f;
      users = f.users;
      entered = f.entered;
      caller = process_of f c.process;
      owner = user_of f (process_of f c.process).owner;
      target = target_of f c.process c.target;
      looked = looked_of f c;
    }

-- the class of a call by the kind of its object
abbrev pub class_in : View → Call → Class
class_in v c = class_of c.request v.target.object.kind

-- the label that set-level asks for: the level e, and the set from t
abbrev pub wanted : Call → Label
wanted c = label c.extra c.target

-- MAC. l is the object's label, r the process, clr the clearance of its owner; a ≤ b says that b dominates a.
-- R: granted without a move if L ≤ current, and otherwise if automatic and the least label above both stays ≤ write mark and ≤ clr
unfoldable pub may_read : Label → Process → Label → Bool
may_read l r clr =
    leq l r.current or (is_automatic r and leq (join r.current l) r.writemark and leq (join r.current l) clr)

-- W: granted if L = current, or automatic and read mark ≤ L ≤ write mark and L ≤ clr
unfoldable pub may_write : Label → Process → Label → Bool
may_write l r clr =
    same l r.current or (is_automatic r and leq r.readmark l and leq l r.writemark and leq l clr)

-- set-level: granted if read mark ≤ L ≤ write mark and L ≤ clr, where L is the label that it asks for
unfoldable pub may_set : Label → Process → Label → Bool
may_set l r clr = leq r.readmark l and leq l r.writemark and leq l clr

-- by class, for an untrusted owner. B: as W. Any other outcome: not granted
unfoldable pub mac_class : Class → Label → Process → Label → Answer
mac_class Absent l r clr = NotGranted
mac_class Reads l r clr = grant (may_read l r clr)
mac_class Writes l r clr = grant (may_write l r clr)
mac_class Both l r clr = grant (may_write l r clr)
mac_class NoCondition l r clr = Granted

-- object with unset level: undefined, before everything else. Trusted owner: granted in every class
unfoldable pub mac_object : Class → Object → Process → User → Answer
mac_object k o r u =
    cond (given o.label) (cond (on u.trusted) Granted (mac_class k o.label r u.clearance)) Undefined

-- send-signal: granted to a trusted owner, and if both current labels are equal
unfoldable pub mac_signal : Process → User → Process → Answer
mac_signal r u receiver = grant (on u.trusted or same r.current receiver.current)

-- N, login, clone, terminate, create of a channel or control data: granted. Any other outcome: not granted
unfoldable pub mac_rule : Action → View → Call → Answer
mac_rule Login v c = Granted
mac_rule Clone v c = Granted
mac_rule SendSignal v c = mac_signal v.caller v.owner v.target.receiver
mac_rule SetLevel v c = grant (may_set (wanted c) v.caller v.owner.clearance)
mac_rule Terminate v c = Granted
mac_rule Create v c =
    cond (in_directory c.extra) (mac_object (class_in v c) v.target.object v.caller v.owner) Granted
mac_rule OnObject v c = mac_object (class_in v c) v.target.object v.caller v.owner
mac_rule Unknown v c = NotGranted

-- the category general, the role of the security officer, and the data type security information
abbrev pub general_category : ℕ
general_category = 0

abbrev pub security_officer : ℕ
security_officer = 1

abbrev pub security_information : ℕ
security_information = 1

-- FC: unset category undefined; granted if the category is general or matches the role by number; else not granted
unfoldable pub fc_rule : Object → User → Answer
fc_rule o u =
    cond (eqb o.category unset) Undefined (grant (eqb o.category general_category or eqb o.category u.role))

-- SIM: for class W or B, or write, on security information: granted to the security officer, else not granted
unfoldable pub sim_rule : ℕ → Class → Object → User → Answer
sim_rule request k o u =
    cond ((alters k or eqb request write_request) and eqb o.datatype security_information) (grant (eqb u.role security_officer)) NotCared

-- FF: a forbidden request is not granted, all else is not cared about
unfoldable pub ff_rule : ℕ → Class → Object → ℕ → Answer
ff_rule request k o flags = cond (forbids flags request k o.kind) NotGranted NotCared

-- a module that is off does not care; FC, SIM and FF care about object targets only
unfoldable pub mac_answer : Action → View → Call → Answer
mac_answer k v c = cond (on v.switches.mac) (mac_rule k v c) NotCared

unfoldable pub fc_answer : Action → View → Call → Answer
fc_answer k v c = cond (on v.switches.fc and needs_object k c.extra) (fc_rule v.target.object v.owner) NotCared

unfoldable pub sim_answer : Action → View → Call → Answer
sim_answer k v c =
    cond (on v.switches.sim and needs_object k c.extra) (sim_rule c.request (class_in v c) v.target.object v.owner) NotCared

unfoldable pub ff_answer : Action → View → Call → Answer
ff_answer k v c =
    cond (on v.switches.ff and needs_object k c.extra) (ff_rule c.request (class_in v c) v.target.object v.looked.flags) NotCared

unfoldable pub answers : Action → View → Call → Answers
answers k v c = answers_from (mac_answer k v c) (fc_answer k v c) (sim_answer k v c) (ff_answer k v c)

-- how often the label of r has moved by itself once R, W or B make it l: once more where that is a change
abbrev pub moves_to : Label → Process → ℕ
moves_to l r = cond (same l r.current) r.moves (one_more most_moves r.moves)

-- r after R, W or B, with this current label and these marks
abbrev pub moved_to : Process → Label → Label → Label → Process
moved_to r current readmark writemark = with_levels r current readmark writemark r.automatic (moves_to current r)

-- MAC's move of a process by class, on an object with label l.
-- R: current and read mark become at least L. W: current becomes L, write mark at most L. B: as W, and both marks become L
unfoldable pub move_by : Class → Label → Process → Process
move_by Absent l r = r
move_by Reads l r = moved_to r (join r.current l) (join r.readmark l) r.writemark
move_by Writes l r = moved_to r l r.readmark (meet r.writemark l)
move_by Both l r = moved_to r l l l
move_by NoCondition l r = r

-- set-level: current becomes the label that it asks for, automatic goes off for good; no move by itself, so none is counted
unfoldable pub set_level : Label → Process → Process
set_level l r = with_levels r l r.readmark r.writemark 0 r.moves

-- the caller after an accepted call on an object: with MAC off, or a trusted owner, marks and current label are untouched
unfoldable pub moved : View → Call → Process
moved v c =
    cond (on v.switches.mac and not (on v.owner.trusted)) (move_by (class_in v c) v.target.object.label v.caller) v.caller

-- the caller after an accepted set-level: with MAC off nothing changes
unfoldable pub levelled : View → Call → Process
levelled v c = cond (on v.switches.mac) (set_level (wanted c) v.caller) v.caller

-- r with its read mark at its current label
abbrev pub read_mark_raised : Process → Process
read_mark_raised r = with_levels r r.current r.current r.writemark r.automatic r.moves

-- the receiver after an accepted signal: with MAC on, and its owner not trusted, its read mark becomes its current label; else it is as it was
unfoldable pub signalled : View → Process
signalled v =
    cond (on v.switches.mac and not (on v.target.owner.trusted)) (read_mark_raised v.target.receiver) v.target.receiver
