-- "Questions in order": a call's refusal number, 0 where it is accepted.
pub use Rattle.rules.specs.declared.Runs.{Runs}
use Rattle.std.specs.Prelude.{ℕ, Bool, not, cond, leb, ltb, eqb}
use Rattle.rules.specs.Types.{Call, Facility}
use Rattle.labels.specs.Decisions.{◌and◌, ◌or◌, asked, ask, on}
use Rattle.labels.specs.Labels.{top_level}
use Rattle.opens.specs.Opens.{most_processes, most_objects, reading, writing}
use Rattle.answers.specs.Answers.{is_not_granted, is_undefined}
use Rattle.rules.specs.Requests.{Action, last_request, action_of, is_absent, is_no_condition, is_login, is_clone, is_send_signal, is_set_level, is_create}
use Rattle.rules.specs.Requests.{needs_object, read_request, write_request, last_kind}
use Rattle.rules.specs.Modules.{View, view_of, class_in, answers}

-- what questions 1 to 5 look at: the number of users, and whether caller and receiver run
abbrev pub runs_of : View → Runs
runs_of v = record { users = v.users; caller = v.caller.running; receiver = v.target.receiver.running }

-- is p, and for 2 and 16 also t, 0..31?
unfoldable pub in_range : Action → Call → Bool
in_range k c =
    ltb c.process most_processes
    and asked (is_clone k) (ltb c.target most_processes)
    and asked (is_send_signal k) (ltb c.target most_processes)

-- does p run (not for login), and for 16 t?
unfoldable pub is_running : Action → Runs → Bool
is_running k r = asked (not (is_login k)) (on r.caller) and asked (is_send_signal k) (on r.receiver)

-- is the new number (login p, clone t) free?
unfoldable pub is_free : Action → Runs → Bool
is_free k r = asked (is_login k) (not (on r.caller)) and asked (is_clone k) (not (on r.receiver))

-- open in the mode of the request: read, write; close: in any
unfoldable pub open_for : View → Call → Bool
open_for v c =
    cond (eqb c.request read_request) (reading v.target.opens)
    (cond (eqb c.request write_request) (writing v.target.opens) (reading v.target.opens or writing v.target.opens))

-- are fewer than 128 entered?
unfoldable pub room_for : Action → View → Call → Bool
room_for k v c = asked (is_create k) (ltb v.entered most_objects)

-- the questions in order; k is what the request acts on
unfoldable pub number_by : Action → View → Call → ℕ
number_by k v c =
    ask (leb c.request last_request) 1
    (ask (in_range k c) 2
    (ask (is_running k (runs_of v)) 3
    (ask (is_free k (runs_of v)) 4
    (ask (asked (is_login k) (ltb c.extra v.users)) 5
    (ask (asked (is_create k) (leb c.extra last_kind)) 8
    (ask (asked (needs_object k c.extra) (on v.target.object.live)) 6
    (ask (asked (needs_object k c.extra) (not (is_absent (class_in v c)))) 7
    (ask (asked (needs_object k c.extra) (asked (is_no_condition (class_in v c)) (open_for v c))) 9
    (ask (room_for k v c) 10
    (ask (asked (is_set_level k) (leb c.extra top_level)) 11
    (ask (not (is_not_granted (answers k v c).combined)) 12
    (ask (not (is_undefined (answers k v c).combined)) 13 0))))))))))))

-- the number of a call
abbrev pub number : Facility → Call → ℕ
number f c = number_by (action_of c.request) (view_of f c) c
