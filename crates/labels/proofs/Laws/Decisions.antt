-- How a decision is turned into facts.
use Rattle.std.specs.Prelude.{ℕ, suc, ◌≡◌, refl, Bool, true, false, ◌≢◌, eqb}
use Rattle.std.proofs.Common.{sym, ◌∙◌, true≢false, eqb-true}
use Rattle.std.proofs.lemmas.Bool.{eqb-false}
use Rattle.labels.specs.Decisions.{◌and◌, ◌or◌, ask}

pub and_l : (a b : Bool) → (a and b) ≡ true → a ≡ true
unfolding ◌and◌
and_l true b h = refl
and_l false b h = h

pub and_r : (a b : Bool) → (a and b) ≡ true → b ≡ true
unfolding ◌and◌
and_r true b h = h
and_r false true h = refl
and_r false false h = h

pub and_i : (a b : Bool) → a ≡ true → b ≡ true → (a and b) ≡ true
unfolding ◌and◌
and_i true b h k = k
and_i false b h k = h

pub or_cases {ℓ} : (a b : Bool) {A : Type ℓ} → (a or b) ≡ true → (a ≡ true → A) → (b ≡ true → A) → A
unfolding ◌or◌
or_cases true b h f g = f refl
or_cases false b h f g = g h

pub or_l : (a b : Bool) → a ≡ true → (a or b) ≡ true
unfolding ◌or◌
or_l true b h = refl
or_l false true h = refl
or_l false false h = h

pub or_r : (a b : Bool) → b ≡ true → (a or b) ≡ true
unfolding ◌or◌
or_r true b h = refl
or_r false b h = h

pub or_none : (a b : Bool) → (a or b) ≡ false → (a ≡ false) × (b ≡ false)
unfolding ◌or◌
or_none true b h = absurd (true≢false h)
or_none false b h = (refl, h)

pub clash {ℓ} : {b : Bool} {A : Type ℓ} → b ≡ true → b ≡ false → A
clash h k = absurd (true≢false (sym h ∙ k))

-- to split on a test and keep the equation
pub by_test {ℓ} : (b : Bool) {A : Type ℓ} → (b ≡ true → A) → (b ≡ false → A) → A
by_test true f g = f refl
by_test false f g = g refl

-- to split on whether two numbers are the same
pub by_eq {ℓ} : (a b : ℕ) {A : Type ℓ} → (a ≡ b → A) → (a ≢ b → A) → A
by_eq a b f g = by_test (eqb a b) (λ h. f (eqb-true a b h)) (λ h. g (eqb-false a b h))

-- number 0 answers each question with yes
pub ask_yes : (b : Bool) (n r : ℕ) → ask b (suc n) r ≡ 0 → b ≡ true
unfolding ask
ask_yes true n r h = refl
ask_yes false n r h = cc

pub ask_later : (b : Bool) (n r : ℕ) → ask b (suc n) r ≡ 0 → r ≡ 0
unfolding ask
ask_later true n r h = h
ask_later false n r h = cc

pub ask_i : (b : Bool) (n r : ℕ) → b ≡ true → r ≡ 0 → ask b n r ≡ 0
unfolding ask
ask_i true n r h k = k
ask_i false n r h k = clash h refl
