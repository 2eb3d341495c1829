-- Query and enforce, and what becomes of a facility under a list of calls.
pub use Rattle.rules.specs.declared.Enforced.{Enforced}
use Rattle.std.specs.Prelude.{ℕ, Bool, cond, eqb}
use Rattle.rules.specs.Types.{Call, Facility, Outcome}
use Rattle.rules.specs.Questions.{number}
use Rattle.labels.specs.Decisions.{◌and◌}
use Rattle.rules.specs.Requests.{action_of, is_create}
use Rattle.answers.specs.Outcomes.{no_object, outcome_of, denies}
use Rattle.rules.specs.Modules.{view_of, answers}
use Rattle.state.specs.State.{process_of, counted}
use Rattle.rules.specs.Effects.{effect_by}

-- number 0 is an accepted call
unfoldable pub accepted : Facility → Call → Bool
accepted f c = eqb (number f c) 0

-- an accepted create returns the next object number, all else 255
unfoldable pub object_given : Facility → Call → ℕ
object_given f c = cond (accepted f c and is_create (action_of c.request)) f.entered no_object

-- query gives what enforce would and changes nothing
unfoldable pub query : Facility → Call → Outcome
query f c = outcome_of (number f c) (answers (action_of c.request) (view_of f c) c) (object_given f c)

-- the owner of the calling process, before the call
abbrev pub owner_in : Facility → Call → ℕ
owner_in f c = (process_of f c.process).owner

-- a refused call: 12 and 13 are counted for user u
unfoldable pub after_refusal : Facility → ℕ → ℕ → Facility
after_refusal f u n = cond (denies n) (counted f u) f

-- the facility after a call
unfoldable pub after : Facility → Call → Facility
after f c = cond (accepted f c) (effect_by (action_of c.request) f c) (after_refusal f (owner_in f c) (number f c))

abbrev pub enforce : Facility → Call → Enforced
enforce f c = record { facility = after f c; outcome = query f c }
