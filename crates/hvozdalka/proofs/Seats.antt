-- A call at a seat that has no process is refused with 1 or 2, and changes nothing.
use Prim.Native.Nat.{ℕ}
use mathlib.Core.Path.{◌≡◌, refl, ◌∙◌, ap}
use mathlib.Core.Bool.{Bool, true, false, cond}
use lib.Dec.{eqb, leb}
use Rattle.labels.specs.Decisions.{◌and◌, ◌or◌, ask}
use Rattle.answers.specs.declared.Outcome.TheVariants.{Refused}
use Rattle.answers.specs.Outcomes.{denies}
use Rattle.state.specs.declared.Call.{Call}
use Rattle.state.specs.declared.Facility.{Facility}
use Rattle.rules.specs.Calls.{accepted}
use Rattle.rules.proofs.Refusals.{refusals}
use Rattle.rules.specs.Questions.{in_range, number, number_by}
use Rattle.rules.specs.Requests.{last_request}
use Rattle.hvozdalka.specs.declared.SeatedCall.{SeatedCall}
use Rattle.hvozdalka.specs.Numbers.{call_of, no_such_process, number_at}
use Rattle.hvozdalka.specs.Seats.{OtherSeats}

-- the call at seat 0, or at another
abbrev seated : SeatedCall → Bool → Call
seated c b = record { request = c.request; process = cond b c.process no_such_process; target = c.target; extra = c.extra }

first_asked : (t : Bool) → ask t 1 2 ≡ cond t 2 1
unfolding ask
first_asked true = refl
first_asked false = refl

numbered : (f : Facility) (c : SeatedCall) → eqb c.seat 0 ≡ false → number f (call_of c) ≡ cond (leb c.request last_request) 2 1
unfolding call_of number_at number_by in_range ◌and◌ ask
numbered f c h = ap (λ (b : Bool). number f (seated c b)) h ∙ first_asked (leb c.request last_request)

not_accepted : (t : Bool) → eqb (cond t 2 1) 0 ≡ false
not_accepted true = refl
not_accepted false = refl

not_denied : (t : Bool) → denies (cond t 2 1) ≡ false
unfolding denies ◌or◌
not_denied true = refl
not_denied false = refl

refused_first : (f : Facility) (c : SeatedCall) → eqb c.seat 0 ≡ false → accepted f (call_of c) ≡ false
unfolding accepted
refused_first f c h = ap (λ (n : ℕ). eqb n 0) (numbered f c h) ∙ not_accepted (leb c.request last_request)

uncounted : (f : Facility) (c : SeatedCall) → eqb c.seat 0 ≡ false → denies (number f (call_of c)) ≡ false
uncounted f c h = ap (λ (n : ℕ). denies n) (numbered f c h) ∙ not_denied (leb c.request last_request)

pub other_seats : OtherSeats
other_seats = record {
  refused = λ f c h.
      refusals.unasked f (call_of c) (refused_first f c h) (uncounted f c h) ∙ ap (λ (n : ℕ). Refused n) (numbered f c h);
  unchanged = λ f c h. refusals.uncounted f (call_of c) (refused_first f c h) (uncounted f c h);
}
