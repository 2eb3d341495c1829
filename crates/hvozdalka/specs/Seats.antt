-- A call at a seat that has no process, whatever its other bytes and the facility. Proved in proofs/Seats.
use Rattle.std.specs.Prelude.{◌≡◌, false, cond, eqb, leb}
use Rattle.answers.specs.declared.Outcome.TheVariants.{Refused}
use Rattle.state.specs.declared.Facility.{Facility}
use Rattle.rules.specs.Calls.{after, query}
use Rattle.rules.specs.Requests.{last_request}
use Rattle.hvozdalka.specs.declared.SeatedCall.{SeatedCall}
use Rattle.hvozdalka.specs.Numbers.{call_of}

pub record OtherSeats : Type 0 where
  -- it is refused with 2, where 1 does not come first
  pub refused : (f : Facility) (c : SeatedCall) → eqb c.seat 0 ≡ false → query f (call_of c) ≡ Refused (cond (leb c.request last_request) 2 1)
  -- and changes nothing
  pub unchanged : (f : Facility) (c : SeatedCall) → eqb c.seat 0 ≡ false → after f (call_of c) ≡ f
