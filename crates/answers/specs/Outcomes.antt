-- The paper's numbers and values of what a call and a set-up come to.
pub use Rattle.answers.specs.declared.Answers.{Answers}
pub use Rattle.answers.specs.declared.Outcome.{Outcome}
pub use Rattle.answers.specs.declared.CallOutcome.{CallOutcome}
pub use Rattle.answers.specs.declared.Refusal.{Refusal}
pub use Rattle.answers.specs.declared.SetupRefusal.{SetupRefusal}
pub use Rattle.answers.specs.declared.NoRoom.{NoRoom}
use Rattle.std.specs.declared.result.Result.{Result}
use Rattle.std.specs.declared.result.Result.TheVariants.{Ok, Err}
use Rattle.std.specs.Prelude.{ℕ, Bool, true, false, cond, eqb}
use Rattle.labels.specs.Decisions.{◌or◌}
use Rattle.answers.specs.Answers.{NotCared, Answer, code, combine_all}
use Rattle.answers.specs.declared.Outcome.TheVariants.{Accepted, Denied, Refused}
use Rattle.answers.specs.declared.Refusal.TheVariants.{NoSuchRequest, NoSuchProcess, NotRunning, NotFree, NoSuchUser, NotLive, KindLacksRequest}
use Rattle.answers.specs.declared.Refusal.TheVariants.{NoSuchKind, NotOpen, AllObjectsEntered, NoSuchLevel, NotGranted, Undefined, Length, Place}
use Rattle.answers.specs.declared.Refusal.TheVariants.{TooMany, Byte, Parent}

-- the numbers by which the modules' combined answer refuses a call
unfoldable pub denies : ℕ → Bool
denies n = eqb n 12 or eqb n 13

abbrev pub not_cared : Answers
not_cared = record { mac = NotCared; fc = NotCared; sim = NotCared; ff = NotCared; combined = NotCared }

-- the answers of the four modules, with their combination
unfoldable pub answers_from : Answer → Answer → Answer → Answer → Answers
answers_from m f s g = record { mac = m; fc = f; sim = s; ff = g; combined = combine_all m f s g }

-- what a call with this number, these answers and this object comes to
unfoldable pub outcome_of : ℕ → Answers → ℕ → Outcome
outcome_of n a o = cond (eqb n 0) (Accepted a o) (cond (denies n) (Denied a n) (Refused n))

-- the object number that a call has which gives none
abbrev pub no_object : ℕ
no_object = 255

-- a call's number, answers and object
abbrev pub number_of : Outcome → ℕ
number_of (Accepted a o) = 0
number_of (Denied a n) = n
number_of (Refused n) = n

abbrev pub answers_of : Outcome → Answers
answers_of (Accepted a o) = a
answers_of (Denied a n) = a
answers_of (Refused n) = not_cared

abbrev pub object_number_of : Outcome → ℕ
object_number_of (Accepted a o) = o
object_number_of (Denied a n) = no_object
object_number_of (Refused n) = no_object

-- an outcome as C is given it: refusal number, the answers' numbers, and the object
abbrev pub outcome_numbers : Outcome → CallOutcome
outcome_numbers o =
    record {
      number = number_of o;
      mac = code (answers_of o).mac;
      fc = code (answers_of o).fc;
      sim = code (answers_of o).sim;
      combined = code (answers_of o).combined;
      object = object_number_of o;
      ff = code (answers_of o).ff;
    }

-- the paper's number of a refusal
abbrev pub refusal_number : Refusal → ℕ
refusal_number NoSuchRequest = 1
refusal_number NoSuchProcess = 2
refusal_number NotRunning = 3
refusal_number NotFree = 4
refusal_number NoSuchUser = 5
refusal_number NotLive = 6
refusal_number KindLacksRequest = 7
refusal_number NoSuchKind = 8
refusal_number NotOpen = 9
refusal_number AllObjectsEntered = 10
refusal_number NoSuchLevel = 11
refusal_number NotGranted = 12
refusal_number Undefined = 13
refusal_number Length = 14
refusal_number Place = 15
refusal_number TooMany = 16
refusal_number Byte = 17
refusal_number Parent = 19

-- one of the ordered questions: yes goes on to the later ones, no refuses
unfoldable pub question : Bool → Refusal → Result Unit Refusal
question true r = Ok tt
question false r = Err r

-- the number of questions that come to x, with `later` for the ones after them
abbrev pub asked_or : Result Unit Refusal → ℕ → ℕ
asked_or (Ok u) later = later
asked_or (Err r) later = refusal_number r

-- what reading a set-up comes to: it is accepted, or refused with a number and the index of a record
abbrev pub SetupOutcome : Type 0
SetupOutcome = Result Unit SetupRefusal

abbrev pub setup_accepted : SetupOutcome
setup_accepted = Ok tt

abbrev pub setup_refused : ℕ → ℕ → SetupOutcome
setup_refused n i = Err (record { number = n; index = i })

-- what writing a set-up out comes to: it is written in n bytes, or there is no room for it
abbrev pub WriteOutcome : Type 0
WriteOutcome = Result ℕ NoRoom

abbrev pub written : ℕ → WriteOutcome
written n = Ok n

abbrev pub no_room : WriteOutcome
no_room = Err (record {})

-- a set-up's number and index
abbrev pub setup_number : SetupOutcome → ℕ
setup_number (Ok u) = 0
setup_number (Err r) = r.number

abbrev pub setup_index : SetupOutcome → ℕ
setup_index (Ok u) = 0
setup_index (Err r) = r.index

-- the number and the length of a set-up that was to be written out
abbrev pub write_number : WriteOutcome → ℕ
write_number (Ok n) = 0
write_number (Err r) = 18

abbrev pub write_length : WriteOutcome → ℕ
write_length (Ok n) = n
write_length (Err r) = 0
