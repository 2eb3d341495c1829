-- The ordered questions, asked one after the other, have the number of the paper's.
use Rattle.std.specs.Prelude.{ℕ, ◌≡◌, ◌≢◌, refl, Bool, true, false}
use Rattle.std.proofs.Common.{ap, sym, ◌∙◌}
use Rattle.std.specs.Prelude.{IsErrAnd}
use Rattle.std.specs.declared.result.Result.{Result}
use Rattle.std.specs.declared.result.Result.TheVariants.{Ok, Err}
use Rattle.labels.specs.Decisions.{ask}
use Rattle.answers.specs.declared.Refusal.TheVariants.{NoSuchRequest, NoSuchProcess, NotRunning, NotFree, NoSuchUser, NotLive, KindLacksRequest}
use Rattle.answers.specs.declared.Refusal.TheVariants.{NoSuchKind, NotOpen, AllObjectsEntered, NoSuchLevel, NotGranted, Undefined, Length, Place}
use Rattle.answers.specs.declared.Refusal.TheVariants.{TooMany, Byte, Parent}
use Rattle.answers.specs.Outcomes.{Refusal, refusal_number, question, asked_or}

-- one question, and the later ones
pub asks : (b : Bool) (r : Refusal) (later : ℕ) → asked_or (question b r) later ≡ ask b (refusal_number r) later
unfolding ask question
asks true r later = refl
asks false r later = refl

ok_is_no_error {ℓ} : {A : Type ℓ} {y : Result Unit Refusal} (u : Unit) (e : Refusal) → y ≡ Ok u → y ≡ Err e → A
ok_is_no_error u e h k = cc

-- One that refuses, and `?` that hands its refusal on: no later one is asked. One that is answered with yes: the later ones are.
pub refuses : (r : Refusal) {b : Bool} {e : Refusal} {y : Result Unit Refusal} → y ≡ question b r → y ≡ Err e
    → (x : Result Unit Refusal) → IsErrAnd x (λ f. f ≡ e) → (b ≡ false) × (x ≡ Err r)
unfolding question
refuses r {b = true} {e = e} h o x i = ok_is_no_error tt e h o
refuses r {b = false} h o (Ok u) i = absurd i
refuses r {b = false} h o (Err f) i = (refl, ap Err i ∙ sym o ∙ h)

pub stops : (r : Refusal) {b d : Bool} {e : Refusal} {y : Result Unit Refusal} → y ≡ question b r → b ≡ d → y ≡ Err e
    → (x : Result Unit Refusal) → IsErrAnd x (λ f. f ≡ e) → (n later : ℕ) → asked_or x n ≡ ask d (refusal_number r) later
unfolding ask
stops r h q o x i n later = let (z, s) = refuses r h o x i in rw (sym q ∙ z) (ap (λ x. asked_or x n) s)

pub answered : (r : Refusal) {b : Bool} {u : Unit} {y : Result Unit Refusal} → y ≡ question b r → y ≡ Ok u → b ≡ true
unfolding question
answered r {b = false} {u = u} h o = ok_is_no_error u r o h
answered r {b = true} h o = refl

pub goes : (r : Refusal) {b d : Bool} {u : Unit} {y : Result Unit Refusal} {n later : ℕ} → y ≡ question b r → b ≡ d → y ≡ Ok u → n ≡ later
    → n ≡ ask d (refusal_number r) later
unfolding ask
goes r h q o e = rw (sym q ∙ answered r h o) e

-- the last one
pub last : (r : Refusal) {b d : Bool} {y : Result Unit Refusal} → y ≡ question b r → b ≡ d → (later : ℕ) → asked_or y later ≡ ask d (refusal_number r) later
last r h q later = ap (λ y. asked_or y later) h ∙ asks _ r later ∙ ap (λ b. ask b (refusal_number r) later) q

-- No refusal has number 0.
not_0 : (r : Refusal) → refusal_number r ≢ 0
not_0 NoSuchRequest h = cc
not_0 NoSuchProcess h = cc
not_0 NotRunning h = cc
not_0 NotFree h = cc
not_0 NoSuchUser h = cc
not_0 NotLive h = cc
not_0 KindLacksRequest h = cc
not_0 NoSuchKind h = cc
not_0 NotOpen h = cc
not_0 AllObjectsEntered h = cc
not_0 NoSuchLevel h = cc
not_0 NotGranted h = cc
not_0 Undefined h = cc
not_0 Length h = cc
not_0 Place h = cc
not_0 TooMany h = cc
not_0 Byte h = cc
not_0 Parent h = cc

pub no_refusal_is_0 : {n : ℕ} (r : Refusal) → n ≡ refusal_number r → n ≢ 0
no_refusal_is_0 r e z = not_0 r (sym e ∙ z)
