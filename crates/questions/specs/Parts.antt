-- The ordered questions in three parts, as the code asks them, by what is known of the request.
use Rattle.std.specs.Prelude.{ℕ, not, cond, leb, ltb, eqb}
use Rattle.answers.specs.declared.Answer.{Answer}
use Rattle.state.specs.declared.Call.{Call}
use Rattle.labels.specs.Decisions.{asked, ask, on, ◌and◌}
use Rattle.labels.specs.Labels.{top_level}
use Rattle.answers.specs.Answers.{is_not_granted, is_undefined}
use Rattle.rules.specs.declared.Action.{Action}
use Rattle.rules.specs.declared.View.{View}
use Rattle.rules.specs.declared.Runs.{Runs}
use Rattle.requests.specs.declared.Request.{Request}
use Rattle.rules.specs.Requests.{is_set_level, is_absent, is_no_condition, is_create, last_request, is_login, action_of, last_kind}
use Rattle.rules.specs.Questions.{room_for, open_for, in_range, is_running, is_free, number_by}
use Rattle.modules.specs.Parts.{answers_by, request_in}
use Rattle.answers.specs.declared.Outcome.{Outcome}
use Rattle.answers.specs.Outcomes.{no_object, outcome_of}

-- questions 10 to 13; a is the combined answer
unfoldable pub late_number : Action → View → Call → Answer → ℕ
late_number k v c a =
    ask (room_for k v c) 10
    (ask (asked (is_set_level k) (leb c.extra top_level)) 11
    (ask (not (is_not_granted a)) 12
    (ask (not (is_undefined a)) 13 0)))

-- questions 8, 6, 7 and 9, and then the later ones
unfoldable pub object_number : Request → View → Call → ℕ → ℕ
object_number q v c later =
    ask (asked (is_create q.action) (leb c.extra last_kind)) 8
    (ask (asked q.object (on v.target.object.live)) 6
    (ask (asked q.object (not (is_absent q.class))) 7
    (ask (asked q.object (asked (is_no_condition q.class) (open_for v c))) 9 later)))

-- questions 1 to 5, and then the later ones
unfoldable pub process_number : Action → Runs → Call → ℕ → ℕ
process_number k r c later =
    ask (leb c.request last_request) 1
    (ask (in_range k c) 2
    (ask (is_running k r) 3
    (ask (is_free k r) 4
    (ask (asked (is_login k) (ltb c.extra r.users)) 5 later))))

-- questions 6 to 13
abbrev pub later_number : Request → View → Call → ℕ
later_number q v c = object_number q v c (late_number q.action v c (answers_by q v c).combined)

-- what a call with this number comes to
unfoldable pub outcome_by : ℕ → Request → View → Call → Outcome
outcome_by n q v c = outcome_of n (answers_by q v c) (cond (eqb n 0 and is_create q.action) v.entered no_object)

-- what a call comes to, by what it looks at
unfoldable pub outcome_in : View → Call → Outcome
outcome_in v c = outcome_by (number_by (action_of c.request) v c) (request_in v c) v c
