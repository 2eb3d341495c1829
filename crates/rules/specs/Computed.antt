-- Calls, set-ups and what is read off them, for the examples and edges of document 01, and what is unfolded so that they compute.
use Rattle.std.specs.Prelude.{ℕ, zero, suc, List, [], ◌∷◌, ◌++◌, map}
use Rattle.rules.specs.Types.{Answer, Answers, Call, Facility}
use Rattle.std.specs.Int.Count.{ones}
use Rattle.labels.specs.Decisions.{◌and◌, ◌or◌, ask, at}
use Rattle.answers.specs.Outcomes.{denies, answers_from, outcome_of, number_of, answers_of}
use Rattle.state.specs.State.{process_in, object_in, user_in, opens_of, fresh_process, no_process, blank, put_process}
use Rattle.state.specs.State.{put_opens, put_user, put_object, add_user}
use Rattle.state.specs.State.{add_object, drop_object, put_refusals, counted, open_by, refusals_of}
use Rattle.opens.specs.Opens.{mark_place, reading, writing, add_modes}
use Rattle.labels.specs.Labels.{Label, label, within, leq, same, join, meet, bottom, top, given, rank}
use Rattle.answers.specs.Answers.{code, grant, passes}
use Rattle.rules.specs.Requests.{action_of, files, directories, channels, control_data, list_of, class_among, class_of, open_change}
use Rattle.rules.specs.FileFlags.{has, has_parent, inherits, effective_in, forbidding, source_in}
use Rattle.rules.specs.Kinds.{kind_of, count_of, fits, room, allowed_by, allowed, directory_among, parent_fits, record_number}
use Rattle.rules.specs.Setup.{records_of, allowed_length, enter_record, enter_all, read_setup, bytes_of_all, listed, new_number, new_parent}
use Rattle.rules.specs.Setup.{setup_records, setup_bytes, write_setup}
use Rattle.rules.specs.Modules.{may_read, may_write, may_set, mac_class, mac_object, mac_signal, mac_rule, fc_rule, sim_rule, mac_answer, fc_answer, sim_answer}
use Rattle.rules.specs.Modules.{ff_rule, ff_answer}
use Rattle.rules.specs.Modules.{answers, move_by, set_level, moved, levelled, signalled}
use Rattle.rules.specs.Questions.{in_range, is_running, is_free, open_for, room_for, number_by}
use Rattle.rules.specs.Effects.{first_flags, first_parent, effect_from}
use Rattle.rules.specs.Calls.{accepted, object_given, query, after_refusal, after}
use Rattle.rules.specs.Histories.{run, outcomes, past, is_start, is_cloning, owner_after, of_class, is_move, moves_of, trusted_login, trusted_logins}
use Rattle.rules.specs.Histories.{history}
use Rattle.rules.specs.Matter.{start, process_gains, object_gains, assign, enter, carry, carry_by, after_entry, account}
use Rattle.rules.specs.Lines.{decimal_in, level_text, call_line, calls_of, call_lines, setup_line, short_line, printed}

-- Whoever unfolds one of these unfolds the definitions of its section.
unfoldable pub labels_computed : ℕ
unfolding ◌and◌ ◌or◌ ask ones within leq same join meet bottom top given rank
labels_computed = 0

unfoldable pub outcomes_computed : ℕ
unfolding grant passes denies answers_from outcome_of
outcomes_computed = 0

-- `close_object`, `close_process` and `copy_process` stay shut: they are 4,096 marks each, and Laws/Opens of `opens` has the laws of them
unfoldable pub state_computed : ℕ
unfolding process_in object_in user_in mark_place opens_of reading writing add_modes fresh_process no_process blank
state_computed = 0

unfoldable pub changes_computed : ℕ
unfolding put_process put_opens put_user put_object add_user add_object drop_object put_refusals counted
changes_computed = 0

unfoldable pub setup_computed : ℕ
unfolding kind_of count_of fits room allowed_by allowed directory_among parent_fits record_number records_of allowed_length enter_record enter_all read_setup
setup_computed = 0

unfoldable pub writing_computed : ℕ
unfolding bytes_of_all listed new_number new_parent setup_records setup_bytes write_setup
writing_computed = 0

unfoldable pub requests_computed : ℕ
unfolding action_of files directories channels control_data list_of class_among class_of open_change
requests_computed = 0

unfoldable pub modules_computed : ℕ
unfolding may_read may_write may_set mac_class mac_object mac_signal mac_rule fc_rule sim_rule mac_answer fc_answer sim_answer ff_rule ff_answer answers
modules_computed = 0

unfoldable pub flags_computed : ℕ
unfolding has has_parent inherits effective_in forbidding source_in
flags_computed = 0

unfoldable pub moves_computed : ℕ
unfolding move_by set_level moved levelled signalled
moves_computed = 0

unfoldable pub questions_computed : ℕ
unfolding in_range is_running is_free open_for room_for number_by
questions_computed = 0

unfoldable pub calls_computed : ℕ
unfolding open_by first_flags first_parent effect_from accepted object_given query after_refusal after run outcomes trusted_login trusted_logins
calls_computed = 0

unfoldable pub histories_computed : ℕ
unfolding past is_start is_cloning owner_after of_class is_move moves_of
histories_computed = 0

unfoldable pub matter_computed : ℕ
unfolding start process_gains object_gains assign enter carry carry_by after_entry account history
matter_computed = 0

unfoldable pub lines_computed : ℕ
unfolding decimal_in level_text call_line calls_of call_lines setup_line short_line printed
lines_computed = 0

-- Whoever unfolds this unfolds every definition of document 01 and of the requests of document 02 that have landed, so that closed calls compute.
unfoldable pub decisions_computed : ℕ
unfolding labels_computed outcomes_computed requests_computed flags_computed modules_computed moves_computed questions_computed calls_computed
decisions_computed = 0

unfoldable pub everything : ℕ
unfolding decisions_computed state_computed changes_computed setup_computed writing_computed histories_computed matter_computed lines_computed
everything = 0

-- the combined answer, and the number, of each call of a list
unfoldable pub combined_answers : Facility → List Call → List Answer
unfolding everything
combined_answers f [] = []
combined_answers f (c ∷ cs) = (answers_of (query f c)).combined ∷ combined_answers (after f c) cs

unfoldable pub numbers_from : Facility → List Call → List ℕ
unfolding everything
numbers_from f [] = []
numbers_from f (c ∷ cs) = number_of (query f c) ∷ numbers_from (after f c) cs

-- request r by process p on t with e
abbrev pub call : ℕ → ℕ → ℕ → ℕ → Call
call r p t e = record { request = r; process = p; target = t; extra = e }

-- the label of a level with no category
abbrev pub level : ℕ → Label
level n = label n 0

-- set-up records
abbrev pub switches : ℕ → ℕ → ℕ → List ℕ
switches mac fc sim = 3 ∷ mac ∷ fc ∷ sim ∷ 0 ∷ 0 ∷ 0 ∷ 0 ∷ []

abbrev pub user : ℕ → ℕ → ℕ → List ℕ
user clearance role trusted = 1 ∷ clearance ∷ role ∷ trusted ∷ 0 ∷ 0 ∷ 0 ∷ 0 ∷ []

abbrev pub object : ℕ → ℕ → ℕ → ℕ → List ℕ
object kind lev category datatype = 2 ∷ kind ∷ lev ∷ category ∷ datatype ∷ 0 ∷ 0 ∷ 0 ∷ []

-- a user and an object with categories
abbrev pub categorized_user : ℕ → ℕ → List ℕ
categorized_user clearance set = 1 ∷ clearance ∷ 0 ∷ 0 ∷ set ∷ 0 ∷ 0 ∷ 0 ∷ []

abbrev pub categorized_object : ℕ → ℕ → ℕ → List ℕ
categorized_object kind lev set = 2 ∷ kind ∷ lev ∷ 0 ∷ 0 ∷ 0 ∷ 0 ∷ set ∷ []

-- with the fourth switch, and with flags and a parent
abbrev pub switches_with : ℕ → ℕ → List ℕ
switches_with mac ff = 3 ∷ mac ∷ 0 ∷ 0 ∷ ff ∷ 0 ∷ 0 ∷ 0 ∷ []

abbrev pub flagged_object : ℕ → ℕ → ℕ → ℕ → List ℕ
flagged_object kind lev flags parent = 2 ∷ kind ∷ lev ∷ 0 ∷ 0 ∷ flags ∷ parent ∷ 0 ∷ []

-- 0, 1, .. up to n numbers
abbrev pub numbers_below : ℕ → List ℕ
numbers_below zero = []
numbers_below (suc n) = numbers_below n ++ (n ∷ [])

-- the numbers of MAC's, FC's, SIM's and the combined answer
abbrev pub codes : Answers → List ℕ
codes a = code a.mac ∷ code a.fc ∷ code a.sim ∷ code a.combined ∷ []

-- what the arrays of a facility hold for process p: running, owner, current level, read mark, write mark, automatic
abbrev pub process_bytes : Facility → ℕ → List ℕ
process_bytes f p =
    at f.runnings p ∷ at f.owners p ∷ at f.currents p ∷ at f.readmarks p ∷ at f.writemarks p ∷ at f.automatics p ∷ []

-- its categories: of the current level, of the read mark, of the write mark
abbrev pub category_bytes : Facility → ℕ → List ℕ
category_bytes f p = at f.currentsets p ∷ at f.readsets p ∷ at f.writesets p ∷ []

-- for object t: live, kind, level, category, data type
abbrev pub object_bytes : Facility → ℕ → List ℕ
object_bytes f t =
    at f.lives t ∷ at f.kinds t ∷ at f.levels t ∷ at f.categories t ∷ at f.datatypes t ∷ []

-- for object t: flags, and parent as its number plus 1
abbrev pub flag_bytes : Facility → ℕ → List ℕ
flag_bytes f t = at f.flags t ∷ at f.parents t ∷ []

-- for user u: clearance, role, trusted
abbrev pub user_bytes : Facility → ℕ → List ℕ
user_bytes f u = at f.clearances u ∷ at f.roles u ∷ at f.trusts u ∷ []

-- the opens of process p on objects 0, 1, .. below n: 1 open for reading, 2 for writing, 3 for both
abbrev pub open_bytes : Facility → ℕ → ℕ → List ℕ
open_bytes f p n = map (λ t. opens_of f p t) (numbers_below n)

-- the switches, the number of users, of objects entered, and of refusals of user 0
abbrev pub counts : Facility → List ℕ
counts f = f.mac ∷ f.fc ∷ f.sim ∷ f.users ∷ f.entered ∷ refusals_of f 0 ∷ []
