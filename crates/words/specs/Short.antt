-- The short line of a call: what was asked, what it came to, why not, and what changed.
use Rattle.std.specs.Prelude.{ℕ, ◌≡◌, refl, Bool, not, cond, true, false, List, [], ◌∷◌, ◌++◌, eqb}
use Prim.Native.String.{String}
use Rattle.state.specs.declared.Call.{Call}
use Rattle.state.specs.declared.Facility.{Facility}
use Rattle.state.specs.declared.Object.{Object}
use Rattle.state.specs.declared.Process.{Process}
use Rattle.state.specs.declared.User.{User}
use Rattle.state.specs.State.{no_process}
use Rattle.answers.specs.declared.Outcome.{Outcome}
use Rattle.labels.specs.Decisions.{◌and◌, ◌or◌, on}
use Rattle.labels.specs.Labels.{label, same, bottom, unset, top_level, all_categories}
use Rattle.answers.specs.declared.Outcome.TheVariants.{Accepted, Denied, Refused}
use Rattle.answers.specs.Outcomes.{no_object, not_cared, number_of, object_number_of, denies}
use Rattle.rules.specs.declared.Action.{Action}
use Rattle.rules.specs.declared.Action.TheVariants.{Login, Clone, SendSignal, SetLevel, Terminate, Create, OnObject, Unknown}
use Rattle.rules.specs.declared.View.{View}
use Rattle.rules.specs.FileFlags.{has}
use Rattle.rules.specs.Requests.{action_of, in_directory, is_clone, is_send_signal}
use Rattle.rules.specs.Lines.{decimal, decimal_in, line_feed}
use Rattle.rules.specs.Text.{ascii}
use Rattle.reasons.specs.declared.Failed.{Failed}
use Rattle.reasons.specs.Reasons.{nothing_failed}
use Rattle.names.specs.Words.{kind_word, letter_word, letters_of, level_word, number_word, request_word, set_word}
use Rattle.names.specs.Reasons.{failed_text, flag_reason, mac_reasons, role_reasons, text_if}
use Rattle.words.specs.Patterns.{filled, filled_from, said}
use Rattle.words.specs.Sentences.{Reason, Told, made_text, target_text, told}

-- a process: its current label and its marks, and the clearance of the user who owns it
abbrev pub labels_text : Process → User → List ℕ
labels_text r u =
    cond (on r.running)
    (filled (ascii "current #*, marks #* to #*, clearance #*")
    (r.current.level ∷ r.current.set ∷ r.readmark.level ∷ r.readmark.set ∷ r.writemark.level ∷ r.writemark.set
    ∷ u.clearance.level ∷ u.clearance.set ∷ []))
    (ascii "not running")

-- an object: its number, and where it is live its label
abbrev pub short_object : ℕ → Object → List ℕ
short_object t o =
    cond (on o.live) (filled (ascii " object # (level $*)") (t ∷ o.label.level ∷ o.label.set ∷ [])) (filled (ascii " object #") (t ∷ []))

-- what a create makes, and in which directory
abbrev pub short_create : Call → Object → List ℕ
short_create c o =
    cond (in_directory c.extra) (filled (ascii " % in") (c.extra ∷ []) ++ short_object c.target o) (filled (ascii " %") (c.extra ∷ []))

-- what a request is about: of a process its number, of an object its number and its label, and all else as in the full line
abbrev pub short_target : Action → Call → View → List ℕ
short_target Login c v = target_text Login c v
short_target Clone c v = filled (ascii " to process #") (c.target ∷ [])
short_target SendSignal c v = filled (ascii " to process #") (c.target ∷ [])
short_target SetLevel c v = target_text SetLevel c v
short_target Terminate c v = target_text Terminate c v
short_target Create c v = short_create c v.target.object
short_target OnObject c v = short_object c.target v.target.object
short_target Unknown c v = target_text Unknown c v

-- the number with what it says, the conditions that failed, and the object that was made
abbrev pub short_outcome : Outcome → Reason → List ℕ
short_outcome o r =
    filled (ascii ": # !") (number_of o ∷ number_of o ∷ []) ++ failed_text r.failed r.source ++ made_text (object_number_of o)

-- whether a process is what it was: running, owner, labels and automatic; its moves are changes of its labels
unfoldable pub same_process : Process → Process → Bool
same_process r x =
    eqb r.running x.running and eqb r.owner x.owner and same r.current x.current and same r.readmark x.readmark
    and same r.writemark x.writemark and eqb r.automatic x.automatic

-- the caller, r before the call and x after it, of user u: told where the call is denied or the caller is not what it was
abbrev pub caller_then : Outcome → Process → Process → User → List ℕ
caller_then o r x u = cond (denies (number_of o) or not (same_process r x)) (ascii "; then " ++ labels_text x u) []

-- the receiver of a signal, or the clone: told where it is not what it was, and only an accepted call changes it
abbrev pub target_then : Call → Process → Process → User → List ℕ
target_then c r x u =
    cond ((is_send_signal (action_of c.request) or is_clone (action_of c.request)) and not (same_process r x))
    (filled (ascii "; process # then ") (c.target ∷ []) ++ labels_text x u) []

-- the short line by what is told of the call
abbrev pub short_text : Told → List ℕ
short_text t =
    decimal t.index
    ++ filled (ascii " process # &") (t.call.process ∷ t.call.request ∷ [])
    ++ short_target (action_of t.call.request) t.call t.before
    ++ short_outcome t.outcome t.reason
    ++ caller_then t.outcome t.before.caller t.later.caller t.later.owner
    ++ target_then t.call t.before.target.receiver t.later.target.receiver t.later.target.owner
    ++ (line_feed ∷ [])

-- the short line of call c, the i-th, enforced on f
abbrev pub short_sentence : ℕ → Facility → Call → List ℕ
short_sentence i f c = short_text (told i f c)

-- Examples. A process by the levels of its current label and its read mark, its owner of clearance 3; an object by its level; a call by its bytes.
abbrev running : ℕ → ℕ → Process
running l m =
    record { running = 1; owner = 0; current = label l 0; readmark = label m 0; writemark = label top_level all_categories; automatic = 1; moves = 0 }

abbrev cleared : User
cleared = record { clearance = label 3 0; role = 0; trusted = 0 }

abbrev live : ℕ → Object
live l = record { live = 1; kind = 0; label = label l 0; category = 0; datatype = 0; flags = 0; parent = 0 }

abbrev deleted : Object
deleted = record { live = 0; kind = 0; label = label 0 0; category = 0; datatype = 0; flags = 0; parent = 0 }

abbrev call : ℕ → ℕ → ℕ → ℕ → Call
call r p t e = record { request = r; process = p; target = t; extra = e }

abbrev seen : Process → Process → Object → View
seen r x o =
    record {
      switches = record { mac = 1; fc = 0; sim = 0; ff = 0 };
      users = 1;
      entered = 3;
      caller = r;
      owner = cleared;
      target = record { receiver = x; object = o; opens = 0; owner = cleared };
      looked = record { flags = 0 };
    }

-- the line of a call with this outcome, which failed so, on this object; the caller and the target as a process, before it and after it
unfoldable line : ℕ → Call → Outcome → Failed → Object → Process → Process → Process → Process → List ℕ
unfolding action_of decimal_in said filled_from request_word number_word kind_word level_word has
    letter_word letters_of set_word text_if mac_reasons role_reasons flag_reason
    failed_text same_process same denies no_process bottom ◌and◌ ◌or◌
line i c u w o r x r' x' =
    short_text
    (record {
      index = i;
      call = c;
      before = seen r x o;
      reason = record { failed = w; source = 0 };
      outcome = u;
      later = seen r' x' o;
      count = 0;
    })

abbrev ended : String → List ℕ
ended text = ascii text ++ (line_feed ∷ [])

abbrev below : Failed
below =
    record {
      unset = false;
      fixed = false;
      clearance = false;
      writemark = false;
      readmark = true;
      receiver = false;
      nocategory = false;
      category = false;
      datatype = false;
      flag = 0;
    }

reads :
    line 2 (call 13 0 2 0) (Accepted not_cared no_object) nothing_failed (live 3) (running 0 0) no_process (running 3 3) no_process
    ≡ ended "2 process 0 read-open object 2 (level 3): 0 accepted; then current 3, marks 3 to 15 all, clearance 3"
unfolding line
reads = refl

denied :
    line 5 (call 20 0 1 0) (Denied not_cared 12) below (live 0) (running 3 3) no_process (running 3 3) no_process
    ≡ ended "5 process 0 write-open object 1 (level 0): 12 not granted (label not over the read mark); then current 3, marks 3 to 15 all, clearance 3"
unfolding line
denied = refl

unchanged :
    line 3 (call 13 0 1 0) (Accepted not_cared no_object) nothing_failed (live unset) (running 0 0) no_process (running 0 0) no_process
    ≡ ended "3 process 0 read-open object 1 (level unset): 0 accepted"
unfolding line
unchanged = refl

logs_in :
    line 1 (call 21 0 0 0) (Accepted not_cared no_object) nothing_failed deleted no_process no_process (running 0 0) (running 0 0)
    ≡ ended "1 process 0 login user 0: 0 accepted; then current 0, marks 0 to 15 all, clearance 3"
unfolding line
logs_in = refl

clones :
    line 11 (call 2 0 2 0) (Accepted not_cared no_object) nothing_failed deleted (running 3 3) no_process (running 3 3) (running 3 3)
    ≡ ended "11 process 0 clone to process 2: 0 accepted; process 2 then current 3, marks 3 to 15 all, clearance 3"
unfolding line
clones = refl

signals :
    line 34 (call 16 2 5 0) (Accepted not_cared no_object) nothing_failed deleted (running 3 3) (running 3 0) (running 3 3) (running 3 3)
    ≡ ended "34 process 2 send-signal to process 5: 0 accepted; process 5 then current 3, marks 3 to 15 all, clearance 3"
unfolding line
signals = refl

terminates :
    line 13 (call 18 0 0 0) (Accepted not_cared no_object) nothing_failed deleted (running 3 3) no_process no_process no_process
    ≡ ended "13 process 0 terminate: 0 accepted; then not running"
unfolding line
terminates = refl

creates :
    line 24 (call 4 4 5 0) (Accepted not_cared 8) nothing_failed (live 0) (running 0 0) no_process (running 0 0) no_process
    ≡ ended "24 process 4 create file in object 5 (level 0): 0 accepted, object 8"
unfolding line
creates = refl

sets :
    line 61 (call 17 9 3 1) (Refused 3) nothing_failed deleted no_process no_process no_process no_process
    ≡ ended "61 process 9 set-level level 1 ab: 3 process does not run"
unfolding line
sets = refl

refused :
    line 7 (call 15 0 9 0) (Refused 6) nothing_failed deleted (running 0 0) no_process (running 0 0) no_process
    ≡ ended "7 process 0 search object 9: 6 object is not live"
unfolding line
refused = refl

unknown :
    line 8 (call 22 0 0 0) (Refused 1) nothing_failed deleted (running 0 0) no_process (running 0 0) no_process
    ≡ ended "8 process 0 no request number 22: 1 no such request"
unfolding line
unknown = refl
