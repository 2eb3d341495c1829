-- Why a call is refused with 12 or 13: which conditions of the modules' rules failed. Each is a condition of rules/Modules, turned round, in its order.
pub use Rattle.reasons.specs.declared.MacFailed.{MacFailed}
pub use Rattle.reasons.specs.declared.Failed.{Failed}
use Rattle.std.specs.Prelude.{ℕ, Bool, true, false, not, cond, eqb}
use Rattle.answers.specs.Outcomes.{denies}
use Rattle.labels.specs.Decisions.{◌and◌, ◌or◌, on}
use Rattle.labels.specs.declared.Label.{Label}
use Rattle.labels.specs.Labels.{unset, leq, same, join, given}
use Rattle.state.specs.declared.Call.{Call}
use Rattle.state.specs.declared.Facility.{Facility}
use Rattle.state.specs.declared.Object.{Object}
use Rattle.state.specs.declared.Process.{Process}
use Rattle.state.specs.declared.User.{User}
use Rattle.state.specs.State.{is_automatic}
use Rattle.rules.specs.FileFlags.{forbidding}
use Rattle.rules.specs.declared.View.{View}
use Rattle.rules.specs.Modules.{view_of, class_in, wanted, general_category, security_information, security_officer}
use Rattle.rules.specs.Questions.{number}
use Rattle.rules.specs.declared.Action.{Action}
use Rattle.rules.specs.declared.Action.TheVariants.{Login, Clone, SendSignal, SetLevel, Terminate, Create, OnObject, Unknown}
use Rattle.rules.specs.declared.Class.{Class}
use Rattle.rules.specs.declared.Class.TheVariants.{Absent, Reads, Writes, Both, NoCondition}
use Rattle.rules.specs.Requests.{action_of, alters, needs_object, write_request}

abbrev pub nothing_of_mac : MacFailed
nothing_of_mac = record { unset = false; fixed = false; clearance = false; writemark = false; readmark = false; receiver = false }

abbrev pub nothing_failed : Failed
nothing_failed =
    record {
      unset = false;
      fixed = false;
      clearance = false;
      writemark = false;
      readmark = false;
      receiver = false;
      nocategory = false;
      category = false;
      datatype = false;
      flag = 0;
    }

-- MAC. What is asked where a label is not held already: automatic, that it is over the read mark, under the write mark, under the clearance
unfoldable pub unless : Bool → Bool → Bool → Bool → Bool → MacFailed
unless held automatic over under cleared =
    record {
      unset = false;
      fixed = not held and not automatic;
      clearance = not held and not cleared;
      writemark = not held and not under;
      readmark = not held and not over;
      receiver = false;
    }

-- R: L ≤ current, or automatic and the least label above both ≤ write mark and ≤ clr
unfoldable pub read_failed : Label → Process → Label → MacFailed
read_failed l r clr =
    unless (leq l r.current) (is_automatic r) true (leq (join r.current l) r.writemark) (leq (join r.current l) clr)

-- W: L = current, or automatic and read mark ≤ L ≤ write mark and L ≤ clr
unfoldable pub write_failed : Label → Process → Label → MacFailed
write_failed l r clr = unless (same l r.current) (is_automatic r) (leq r.readmark l) (leq l r.writemark) (leq l clr)

-- set-level: read mark ≤ L ≤ write mark and L ≤ clr; automatic is not asked
unfoldable pub set_failed : Label → Process → Label → MacFailed
set_failed l r clr = unless false true (leq r.readmark l) (leq l r.writemark) (leq l clr)

-- by class, for an untrusted owner. B: as W
unfoldable pub class_failed : Class → Label → Process → Label → MacFailed
class_failed Absent l r clr = nothing_of_mac
class_failed Reads l r clr = read_failed l r clr
class_failed Writes l r clr = write_failed l r clr
class_failed Both l r clr = write_failed l r clr
class_failed NoCondition l r clr = nothing_of_mac

-- object with unset level: undefined, before everything else. Trusted owner: granted in every class
unfoldable pub object_failed : Class → Object → Process → User → MacFailed
object_failed k o r u =
    cond (given o.label) (cond (on u.trusted) nothing_of_mac (class_failed k o.label r u.clearance))
    (record { unset = true; fixed = false; clearance = false; writemark = false; readmark = false; receiver = false })

-- send-signal: trusted owner, or both current labels equal
unfoldable pub signal_failed : Process → User → Process → MacFailed
signal_failed r u receiver =
    record {
      unset = false;
      fixed = false;
      clearance = false;
      writemark = false;
      readmark = false;
      receiver = not (on u.trusted or same r.current receiver.current);
    }

-- a request that needs no object
unfoldable pub alone_failed : Action → View → Call → MacFailed
alone_failed Login v c = nothing_of_mac
alone_failed Clone v c = nothing_of_mac
alone_failed SendSignal v c = signal_failed v.caller v.owner v.target.receiver
alone_failed SetLevel v c = set_failed (wanted c) v.caller v.owner.clearance
alone_failed Terminate v c = nothing_of_mac
alone_failed Create v c = nothing_of_mac
alone_failed OnObject v c = nothing_of_mac
alone_failed Unknown v c = nothing_of_mac

unfoldable pub mac_failed : Action → View → Call → MacFailed
mac_failed k v c =
    cond (on v.switches.mac)
    (cond (needs_object k c.extra) (object_failed (class_in v c) v.target.object v.caller v.owner) (alone_failed k v c))
    nothing_of_mac

-- FC, where it is on and an object is needed: the category is unset; it is set, and neither general nor of the role
unfoldable pub category_unset : Action → View → Call → Bool
category_unset k v c = (on v.switches.fc and needs_object k c.extra) and eqb v.target.object.category unset

unfoldable pub category_failed : Action → View → Call → Bool
category_failed k v c =
    (on v.switches.fc and needs_object k c.extra)
    and not (eqb v.target.object.category unset)
    and not (eqb v.target.object.category general_category or eqb v.target.object.category v.owner.role)

-- SIM: for class W or B, or write, security information, and another role than security officer
unfoldable pub data_type_failed : Action → View → Call → Bool
data_type_failed k v c =
    (on v.switches.sim and needs_object k c.extra)
    and ((alters (class_in v c) or eqb c.request write_request) and eqb v.target.object.datatype security_information)
    and not (eqb v.owner.role security_officer)

-- FF: the first flag that forbids, 0 where none does
unfoldable pub flag_failed : Action → View → Call → ℕ
flag_failed k v c =
    cond (on v.switches.ff and needs_object k c.extra)
    (forbidding v.looked.flags c.request (class_in v c) v.target.object.kind) 0

-- all conditions that failed of a call that the modules judge, k being what the request acts on
unfoldable pub failed_in : Action → View → Call → Failed
failed_in k v c =
    record {
      unset = (mac_failed k v c).unset;
      fixed = (mac_failed k v c).fixed;
      clearance = (mac_failed k v c).clearance;
      writemark = (mac_failed k v c).writemark;
      readmark = (mac_failed k v c).readmark;
      receiver = (mac_failed k v c).receiver;
      nocategory = category_unset k v c;
      category = category_failed k v c;
      datatype = data_type_failed k v c;
      flag = flag_failed k v c;
    }

-- with numbers other than 12 and 13 the modules refused nothing
unfoldable pub failed_by : ℕ → View → Call → Failed
failed_by n v c = cond (denies n) (failed_in (action_of c.request) v c) nothing_failed

-- the conditions that failed of call c on f
unfoldable pub failed_of : Facility → Call → Failed
failed_of f c = failed_by (number f c) (view_of f c) c
