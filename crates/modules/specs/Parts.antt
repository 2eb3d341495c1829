-- The modules' answers and MAC's move by what is known of the request, which the code finds once for a call.
use Rattle.std.specs.Prelude.{not, cond}
use Rattle.answers.specs.declared.Answer.{Answer}
use Rattle.answers.specs.declared.Answer.TheVariants.{NotCared, Granted, NotGranted}
use Rattle.answers.specs.declared.Answers.{Answers}
use Rattle.answers.specs.Answers.{grant}
use Rattle.answers.specs.Outcomes.{answers_from}
use Rattle.labels.specs.Decisions.{◌and◌, on}
use Rattle.state.specs.declared.Call.{Call}
use Rattle.state.specs.declared.Process.{Process}
use Rattle.requests.specs.declared.Request.{Request}
use Rattle.requests.specs.Request.{request_of}
use Rattle.rules.specs.declared.Action.{Action}
use Rattle.rules.specs.declared.Action.TheVariants.{Login, Clone, SendSignal, SetLevel, Terminate, Create, OnObject, Unknown}
use Rattle.rules.specs.declared.Class.{Class}
use Rattle.rules.specs.declared.View.{View}
use Rattle.rules.specs.Modules.{fc_rule, ff_rule, mac_object, mac_signal, may_set, move_by, sim_rule, wanted}

-- what is known of the request of a call that looks at v
abbrev pub request_in : View → Call → Request
request_in v c = request_of c.request v.target.object.kind c.extra

-- MAC's rule where no object is needed
unfoldable pub mac_alone : Action → View → Call → Answer
mac_alone Login v c = Granted
mac_alone Clone v c = Granted
mac_alone SendSignal v c = mac_signal v.caller v.owner v.target.receiver
mac_alone SetLevel v c = grant (may_set (wanted c) v.caller v.owner.clearance)
mac_alone Terminate v c = Granted
mac_alone Create v c = Granted
mac_alone OnObject v c = NotGranted
mac_alone Unknown v c = NotGranted

-- MAC's rule
unfoldable pub mac_rule_by : Request → View → Call → Answer
mac_rule_by q v c = cond q.object (mac_object q.class v.target.object v.caller v.owner) (mac_alone q.action v c)

-- the answers
unfoldable pub mac_answer_by : Request → View → Call → Answer
mac_answer_by q v c = cond (on v.switches.mac) (mac_rule_by q v c) NotCared

unfoldable pub fc_answer_by : Request → View → Answer
fc_answer_by q v = cond (on v.switches.fc and q.object) (fc_rule v.target.object v.owner) NotCared

unfoldable pub sim_answer_by : Request → View → Call → Answer
sim_answer_by q v c = cond (on v.switches.sim and q.object) (sim_rule c.request q.class v.target.object v.owner) NotCared

unfoldable pub ff_answer_by : Request → View → Call → Answer
ff_answer_by q v c = cond (on v.switches.ff and q.object) (ff_rule c.request q.class v.target.object v.looked.flags) NotCared

unfoldable pub answers_by : Request → View → Call → Answers
answers_by q v c = answers_from (mac_answer_by q v c) (fc_answer_by q v) (sim_answer_by q v c) (ff_answer_by q v c)

-- the caller after an accepted call on an object
unfoldable pub moved_by : Class → View → Process
moved_by k v = cond (on v.switches.mac and not (on v.owner.trusted)) (move_by k v.target.object.label v.caller) v.caller
