-- The loop that counts live objects gives the new number.
use Prim.Native.Nat.{ℕ, ◌+◌}
use mathlib.Core.Path.{◌≡◌, refl, sym, ◌∙◌, ap}
use mathlib.Core.Logic.{◌≢◌}
use native.Mathlib.Numerals.{add-one}
use borrow.Author.Tests.{eq-eqb, ne_eqb}
use Rattle.labels.specs.Decisions.{at}
use Rattle.rules.specs.Setup.{new_number}
use Rattle.rules.proofs.Parents.{new_more, new_gone}
use Rattle.state.specs.State.{Objects}

pub number_begins : (x : Objects) → 0 ≡ new_number x 0
unfolding new_number
number_begins x = refl

-- with the next object, where it lives, and where not
pub number_live : (x : Objects) (k n : ℕ) → n ≡ new_number x k → at x.lives k ≡ 1 → n + 1 ≡ new_number x (k + 1)
number_live x k n e v =
    ap (λ (m : ℕ). m + 1) e ∙ sym (new_more x k (eq-eqb _ 1 v)) ∙ ap (new_number x) (sym (add-one k))

pub number_gone : (x : Objects) (k n : ℕ) → n ≡ new_number x k → at x.lives k ≢ 1 → n ≡ new_number x (k + 1)
number_gone x k n e v = e ∙ sym (new_gone x k (ne_eqb _ 1 v)) ∙ ap (new_number x) (sym (add-one k))
