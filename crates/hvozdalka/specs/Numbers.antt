-- Outcomes as C is given them: the paper's numbers.
use Rattle.std.specs.Prelude.{ℕ, cond, List, ◌≡◌, eqb}
use Rattle.std.proofs.Common.{sym, ◌∙◌, ap}
use Rattle.state.specs.declared.Call.{Call}
use Rattle.state.specs.declared.Facility.{Facility}
use Rattle.state.specs.State.{opens_of}
use Rattle.opens.specs.Opens.{add_modes}
use Rattle.answers.specs.Outcomes.{SetupOutcome, WriteOutcome, outcome_numbers, setup_number, setup_index, write_number, write_length}
use Rattle.rules.specs.declared.Enforced.{Enforced}
use Rattle.rules.specs.declared.Reading.{Reading}
use Rattle.rules.specs.Lines.{calls_of}
use Rattle.rules.specs.Matter.{holds}
use Rattle.rules.specs.Setup.{read_setup}
use Rattle.history.specs.Replayed.{replayed}
use Rattle.hvozdalka.specs.declared.Held.{Held}
use Rattle.hvozdalka.specs.declared.CallEnforced.{CallEnforced}
use Rattle.hvozdalka.specs.declared.SetupReading.{SetupReading}
use Rattle.hvozdalka.specs.declared.SetupNumbers.{SetupNumbers}
use Rattle.hvozdalka.specs.declared.SetupWriting.{SetupWriting}
use Rattle.hvozdalka.specs.declared.SeatedCall.{SeatedCall}
use Rattle.hvozdalka.specs.declared.Summary.{Summary}

-- a process number that is none
abbrev pub no_such_process : ℕ
no_such_process = 255

-- the process that number p means at a seat: there is one seat, 0, and another has no process
unfoldable pub number_at : ℕ → ℕ → ℕ
number_at seat p = cond (eqb seat 0) p no_such_process

-- the call that C hands in: of a seat that has no process question 2 refuses it, where question 1 does not come first
unfoldable pub call_of : SeatedCall → Call
call_of c = record { request = c.request; process = number_at c.seat c.process; target = c.target; extra = c.extra }

abbrev pub enforced_numbers : Enforced → CallEnforced
enforced_numbers e = record { facility = e.facility; outcome = outcome_numbers e.outcome }

abbrev pub reading_numbers : Reading → SetupReading
reading_numbers r = record { facility = r.facility; number = setup_number r.outcome; index = setup_index r.outcome }

abbrev pub writing_numbers : WriteOutcome → SetupWriting
writing_numbers w = record { length = write_length w; number = write_number w }

-- switches and counts
abbrev pub summary_of : Facility → Summary
summary_of f = record { mac = f.mac; fc = f.fc; sim = f.sim; users = f.users; entered = f.entered; ff = f.ff }

-- the same from an outcome that is known
pub reading_is : (r q : Reading) (o : SetupOutcome) → r ≡ q → r.outcome ≡ o
    → record { facility = r.facility; number = setup_number o; index = setup_index o } ≡ reading_numbers q
reading_is r q o e d =
    sym (ap (λ (x : SetupOutcome). record { facility = r.facility; number = setup_number x; index = setup_index x }) d)
    ∙ ap (λ (x : Reading). reading_numbers x) e

-- the number and the index of a set-up alone
abbrev pub setup_numbers : SetupOutcome → SetupNumbers
setup_numbers o = record { number = setup_number o; index = setup_index o }

-- the facility of a set-up after calls, whether object x holds the matter of c after them, and what the set-up came to
abbrev pub replay_numbers : List ℕ → List ℕ → SetupReading
replay_numbers s calls =
    record { facility = replayed s calls; number = setup_number (read_setup s).outcome; index = setup_index (read_setup s).outcome }

abbrev pub held_numbers : List ℕ → List ℕ → ℕ → ℕ → Held
held_numbers s calls x c =
    record { holds = holds s (calls_of calls) x c; number = setup_number (read_setup s).outcome; index = setup_index (read_setup s).outcome }

-- how process p has object t open: 1 for reading, 2 for writing, 3 for both, else 0, whatever other bits the byte has
unfoldable pub open_marks : Facility → ℕ → ℕ → ℕ
open_marks f p t = add_modes (opens_of f p t) 0

-- the version of what C is given: one more with each change of the header that callers see
abbrev pub version : ℕ
version = 9
