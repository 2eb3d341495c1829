-- By what is known of a call's request the modules answer, and MAC moves the caller, as the rules have it.
use Rattle.std.specs.Prelude.{cond, ◌≡◌, refl}
use Rattle.answers.specs.declared.Answer.TheVariants.{NotCared}
use Rattle.answers.specs.Outcomes.{answers_from}
use Rattle.labels.specs.Decisions.{on}
use Rattle.modules.specs.Parts.{answers_by, fc_answer_by, ff_answer_by, mac_alone, mac_answer_by, mac_rule_by, moved_by, request_in, sim_answer_by}
use Rattle.rules.specs.declared.Action.{Action}
use Rattle.rules.specs.declared.Action.TheVariants.{Login, Clone, SendSignal, SetLevel, Terminate, Create, OnObject, Unknown}
use Rattle.rules.specs.declared.View.{View}
use Rattle.rules.specs.Modules.{answers, class_in, fc_answer, ff_answer, mac_answer, mac_object, mac_rule, moved, sim_answer}
use Rattle.rules.specs.Requests.{action_of, needs_object}
use Rattle.state.specs.declared.Call.{Call}

mac_by : (k : Action) (v : View) (c : Call)
    → cond (needs_object k c.extra) (mac_object (class_in v c) v.target.object v.caller v.owner) (mac_alone k v c) ≡ mac_rule k v c
unfolding mac_rule mac_alone
mac_by Login v c = refl
mac_by Clone v c = refl
mac_by SendSignal v c = refl
mac_by SetLevel v c = refl
mac_by Terminate v c = refl
mac_by Create v c = refl
mac_by OnObject v c = refl
mac_by Unknown v c = refl

pub answers_by_law : (v : View) (c : Call) → answers_by (request_in v c) v c ≡ answers (action_of c.request) v c
unfolding answers_by answers mac_answer_by mac_answer mac_rule_by fc_answer_by fc_answer sim_answer_by sim_answer ff_answer_by ff_answer
answers_by_law v c =
    let k = action_of c.request in
    λ i. answers_from (cond (on v.switches.mac) (mac_by k v c i) NotCared) (fc_answer k v c) (sim_answer k v c) (ff_answer k v c)

pub moved_by_law : (v : View) (c : Call) → moved_by (class_in v c) v ≡ moved v c
unfolding moved_by moved
moved_by_law v c = refl
