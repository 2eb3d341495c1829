-- The text of what failed of a call on a facility, from its parts.
use Prim.Native.Nat.{ℕ}
use mathlib.Core.Path.{◌≡◌, ◌∙◌, ap}
use Rattle.state.specs.declared.Call.{Call}
use Rattle.state.specs.declared.Facility.{Facility}
use Rattle.reasons.specs.declared.Failed.{Failed}
use Rattle.reasons.specs.Reasons.{failed_of}
use Rattle.names.specs.Reasons.{failed_text, source_of, why_text}

pub text_found : (f : Facility) (c : Call) (w : Failed) (s : ℕ) → w ≡ failed_of f c → s ≡ source_of f c w.flag → failed_text w s ≡ why_text f c
unfolding why_text
text_found f c w s hw hs =
    ap (failed_text w) (hs ∙ ap (λ (x : Failed). source_of f c x.flag) hw)
    ∙ ap (λ (x : Failed). failed_text x (source_of f c (failed_of f c).flag)) hw
