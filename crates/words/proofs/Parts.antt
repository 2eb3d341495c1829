-- What is told of a call, from its parts.
use Prim.Native.Nat.{ℕ}
use mathlib.Core.Path.{◌≡◌, ◌∙◌, ap}
use Rattle.answers.specs.declared.Outcome.{Outcome}
use Rattle.answers.specs.Outcomes.{number_of}
use Rattle.state.specs.declared.Call.{Call}
use Rattle.state.specs.declared.Facility.{Facility}
use Rattle.state.specs.State.{refusals_of}
use Rattle.rules.specs.declared.View.{View}
use Rattle.rules.specs.Modules.{view_of}
use Rattle.rules.specs.Calls.{after, query}
use Rattle.rules.specs.Questions.{number}
use Rattle.rules.proofs.Refusals.{query_number}
use Rattle.reasons.specs.declared.Failed.{Failed}
use Rattle.reasons.specs.Reasons.{failed_by}
use Rattle.names.specs.Reasons.{source_of}
use Rattle.words.specs.Sentences.{Reason, Told, reason_in, told}

abbrev reason : Failed → ℕ → Reason
reason w s = record { failed = w; source = s }

pub reason_found : (f : Facility) (n : ℕ) (v : View) (c : Call) (w : Failed) (s : ℕ) → w ≡ failed_by n v c → s ≡ source_of f c w.flag
    → reason w s ≡ reason_in f n v c
unfolding reason_in
reason_found f n v c w s hw hs =
    let es = hs ∙ ap (λ (x : Failed). source_of f c x.flag) hw in
    λ i. record { failed = hw i; source = es i }

abbrev record_of : ℕ → Call → View → Reason → Outcome → View → ℕ → Told
record_of i c v r o w k = record { index = i; call = c; before = v; reason = r; outcome = o; later = w; count = k }

-- g is the facility after the call, n the number of an outcome q that is what a query gives
pub told_found : (i : ℕ) (f g : Facility) (c : Call) (v : View) (q : Outcome) (n : ℕ) (r : Reason) (o : Outcome) (w : View) (k : ℕ) → v ≡ view_of f c
    → q ≡ query f c → n ≡ number_of q → r ≡ reason_in f n v c → o ≡ query f c → g ≡ after f c → w ≡ view_of g c → k ≡ refusals_of g v.caller.owner
    → record_of i c v r o w k ≡ told i f c
unfolding told
told_found i f g c v q n r o w k hv hq hn hr ho hg hw hk =
    let en = hn ∙ ap number_of hq ∙ query_number f c in
    let er = hr ∙ ap (λ (x : ℕ). reason_in f x v c) en ∙ ap (λ (x : View). reason_in f (number f c) x c) hv in
    let ew = hw ∙ ap (λ (x : Facility). view_of x c) hg in
    let ek =
    hk ∙ ap (λ (x : Facility). refusals_of x v.caller.owner) hg ∙ ap (λ (x : View). refusals_of (after f c) x.caller.owner) hv in
    λ j. record { index = i; call = c; before = hv j; reason = er j; outcome = ho j; later = ew j; count = ek j }
