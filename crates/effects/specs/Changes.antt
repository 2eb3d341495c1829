-- What a call changes, by what it comes to.
use Rattle.std.specs.Prelude.{ℕ}
use Rattle.answers.specs.declared.Outcome.{Outcome}
use Rattle.answers.specs.declared.Outcome.TheVariants.{Accepted, Denied, Refused}
use Rattle.answers.specs.Outcomes.{no_object, not_cared, outcome_of}
use Rattle.state.specs.declared.Call.{Call}
use Rattle.state.specs.declared.Change.{Change}
use Rattle.state.specs.declared.Change.TheVariants.{NoChange, CountRefusal}
use Rattle.rules.specs.declared.View.{View}
use Rattle.rules.specs.Requests.{action_of}
use Rattle.rules.specs.Effects.{change_of}

-- an accepted call changes what its request does, a denied one the counter of the caller's owner alone, any other nothing
abbrev pub change_in : Outcome → View → Call → Change
change_in (Accepted a o) v c = change_of (action_of c.request) v c
change_in (Denied a n) v c = CountRefusal v.caller.owner
change_in (Refused n) v c = NoChange

-- the same by the number of what the call comes to
unfoldable pub change_by : ℕ → View → Call → Change
change_by n v c = change_in (outcome_of n not_cared no_object) v c
