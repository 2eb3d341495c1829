-- The line of a call in words.
pub use Rattle.words.specs.declared.Reason.{Reason}
pub use Rattle.words.specs.declared.Told.{Told}
use Rattle.std.specs.Prelude.{ℕ, ◌≡◌, refl, cond, List, [], ◌∷◌, ◌++◌, eqb}
use Rattle.state.specs.declared.Call.{Call}
use Rattle.state.specs.declared.Facility.{Facility}
use Rattle.answers.specs.declared.Outcome.{Outcome}
use Rattle.state.specs.declared.Object.{Object}
use Rattle.state.specs.declared.Process.{Process}
use Rattle.state.specs.declared.User.{User}
use Rattle.labels.specs.Decisions.{◌and◌, ◌or◌, on}
use Rattle.answers.specs.Answers.{code}
use Rattle.answers.specs.Outcomes.{no_object, number_of, answers_of, object_number_of, denies}
use Rattle.state.specs.State.{refusals_of}
use Rattle.rules.specs.declared.Action.{Action}
use Rattle.rules.specs.declared.Action.TheVariants.{Login, Clone, SendSignal, SetLevel, Terminate, Create, OnObject, Unknown}
use Rattle.rules.specs.declared.View.{View}
use Rattle.rules.specs.Requests.{action_of, in_directory, is_clone, is_send_signal}
use Rattle.rules.specs.FileFlags.{read_only, no_execute, no_delete, search_only, add_inherited, has}
use Rattle.rules.specs.Modules.{view_of}
use Rattle.rules.specs.Questions.{number}
use Rattle.rules.specs.Calls.{query, after, owner_in}
use Rattle.rules.specs.Histories.{moves_bound}
use Rattle.rules.specs.Lines.{decimal, line_feed}
use Rattle.rules.specs.Text.{ascii}
use Rattle.reasons.specs.Reasons.{failed_by}
use Rattle.names.specs.Words.{flag_word}
use Rattle.names.specs.Reasons.{failed_text, source_of}
use Rattle.words.specs.Patterns.{filled, filled_from, said}

-- a process: its owner with the role, whether trusted, and the clearance; its current level and its marks, whether automatic, and how often its level
-- moved by itself, of at most how many times
abbrev pub process_text : Process → User → List ℕ
process_text r u =
    cond (on r.running)
    (filled (ascii "user #, @, <, clearance #*, current #*, marks #* to #*, >, moves # of at most ")
    (r.owner ∷ u.role ∷ u.trusted ∷ u.clearance.level ∷ u.clearance.set ∷ r.current.level ∷ r.current.set ∷ r.readmark.level
    ∷ r.readmark.set ∷ r.writemark.level ∷ r.writemark.set ∷ r.automatic ∷ r.moves ∷ [])
    ++ decimal (moves_bound u.clearance))
    (ascii "not running")

-- a flag where it is among v, and all that are
unfoldable pub flag_text : ℕ → ℕ → List ℕ
flag_text m v = cond (has m v) (filled (ascii ", \"") (m ∷ [])) []

unfoldable pub flags_text : ℕ → List ℕ
flags_text v = flag_text read_only v ++ flag_text no_execute v ++ flag_text no_delete v ++ flag_text search_only v ++ flag_text add_inherited v

example : flags_text 129 ≡ ascii ", read-only, add-inherited"
unfolding has flag_word said filled_from flag_text flags_text ◌or◌ ◌and◌
example = refl

-- an object: its number, and where it is live its kind, its level, the category that FC looks at, its data type, and the flags that FF sees
abbrev pub object_text : ℕ → Object → ℕ → List ℕ
object_text t o flags =
    cond (on o.live)
    (filled (ascii " object # (%, level $*, category =, data type ?")
    (t ∷ o.kind ∷ o.label.level ∷ o.label.set ∷ o.category ∷ o.datatype ∷ [])
    ++ flags_text flags ++ ascii ")")
    (filled (ascii " object # (not live)") (t ∷ []))

-- what a create makes, and in which directory
abbrev pub create_text : Call → Object → ℕ → List ℕ
create_text c o flags =
    cond (in_directory c.extra) (filled (ascii " % in") (c.extra ∷ []) ++ object_text c.target o flags) (filled (ascii " %") (c.extra ∷ []))

-- a signal's receiver, and the user who owns it
abbrev pub receiver_text : ℕ → Process → User → List ℕ
receiver_text t r u = filled (ascii " process # (") (t ∷ []) ++ process_text r u ++ ascii ")"

-- what a request is about
abbrev pub target_text : Action → Call → View → List ℕ
target_text Login c v = filled (ascii " user #") (c.extra ∷ [])
target_text Clone c v = filled (ascii " to process #, the clone of process #") (c.target ∷ c.process ∷ [])
target_text SendSignal c v = receiver_text c.target v.target.receiver v.target.owner
target_text SetLevel c v = filled (ascii " level #*") (c.extra ∷ c.target ∷ [])
target_text Terminate c v = []
target_text Create c v = create_text c v.target.object v.looked.flags
target_text OnObject c v = object_text c.target v.target.object v.looked.flags
target_text Unknown c v = filled (ascii " number #") (c.request ∷ [])

-- who calls, and what for
abbrev pub before_text : ℕ → Call → Process → User → List ℕ
before_text i c r u =
    decimal i ++ filled (ascii " process # (") (c.process ∷ []) ++ process_text r u ++ filled (ascii "): &") (c.request ∷ [])

-- the object that a create made
abbrev pub made_text : ℕ → List ℕ
made_text n = cond (eqb n no_object) [] (filled (ascii ", object #") (n ∷ []))

-- what the modules answer, and the number with what it says
abbrev pub answers_text : Outcome → List ℕ
answers_text o =
    let a = answers_of o in
    filled (ascii ": MAC ', FC ', SIM ', FF ', combined ': # !")
    (code a.mac ∷ code a.fc ∷ code a.sim ∷ code a.ff ∷ code a.combined ∷ number_of o ∷ number_of o ∷ [])

-- the same, the conditions that failed, and the object that was made
abbrev pub outcome_text : Outcome → Reason → List ℕ
outcome_text o r = answers_text o ++ failed_text r.failed r.source ++ made_text (object_number_of o) ++ ascii "; then "

-- after a signal its receiver, after a cloning the clone
abbrev pub later_text : Call → Process → User → List ℕ
later_text c r u =
    cond (is_send_signal (action_of c.request) or is_clone (action_of c.request))
    (filled (ascii "; process # then ") (c.target ∷ []) ++ process_text r u) []

-- after a denial, how many refusals of the caller's owner are counted
abbrev pub count_text : Outcome → ℕ → ℕ → List ℕ
count_text o u n = cond (denies (number_of o)) (filled (ascii "; refusals of user #: ") (u ∷ []) ++ decimal n) []

-- the line of a call by what is told of it
abbrev pub sentence_text : Told → List ℕ
sentence_text t =
    before_text t.index t.call t.before.caller t.before.owner
    ++ target_text (action_of t.call.request) t.call t.before
    ++ outcome_text t.outcome t.reason
    ++ process_text t.later.caller t.later.owner
    ++ later_text t.call t.later.target.receiver t.later.target.owner
    ++ count_text t.outcome t.before.caller.owner t.count
    ++ (line_feed ∷ [])

-- what failed of call c with number n, which looks at v, and the object of f that the flag comes from which forbids it
unfoldable pub reason_in : Facility → ℕ → View → Call → Reason
reason_in f n v c = record { failed = failed_by n v c; source = source_of f c (failed_by n v c).flag }

-- what is told of call c, the i-th, enforced on f: what it looks at, what failed, what it comes to, what it would look at after it, and the counter of the
-- caller's owner then
unfoldable pub told : ℕ → Facility → Call → Told
told i f c =
    record {
      index = i;
      call = c;
      before = view_of f c;
      reason = reason_in f (number f c) (view_of f c) c;
      outcome = query f c;
      later = view_of (after f c) c;
      count = refusals_of (after f c) (owner_in f c);
    }

-- the line of call c, the i-th, enforced on f
abbrev pub sentence : ℕ → Facility → Call → List ℕ
sentence i f c = sentence_text (told i f c)

-- a refused set-up: of a length that is not allowed no record is at fault
abbrev pub refused_length : ℕ
refused_length = 14

unfoldable pub setup_sentence : ℕ → ℕ → List ℕ
setup_sentence n i =
    cond (eqb n refused_length)
    (filled (ascii "set-up refused: # !" ++ (line_feed ∷ [])) (n ∷ n ∷ []))
    (ascii "set-up refused at record " ++ decimal i ++ filled (ascii ": # !" ++ (line_feed ∷ [])) (n ∷ n ∷ []))
