-- Each letter is stored behind those before it.
use Prim.Native.Nat.{suc, ◌+◌}
use mathlib.Core.Path.{◌≡◌, ap, sym, ◌∙◌}
use mathlib.Core.List.{[], ◌∷◌, ◌++◌}
use native.Mathlib.Omega.{arith}
use Rattle.names.specs.Words.{letter_word, letters_of}
use Rattle.names.specs.Reasons.{text_if}
use Rattle.names.proofs.Letters.{letters_to}
use Rattle.text.specs.Laws.Puts.{◌▹◌, put_as}
use Rattle.names.proofs.put_letters.Goals as goal

pub loop-k-preserved : goal.loop-k-preserved
unfolding letter_word text_if
loop-k-preserved c =
    let s = c.args.s in
    let l = c.loop-k in
    let e : l.k + 1 ≡ suc l.k = omega arith in
    put_as (ap (λ b. letters_to s l.k ++ text_if b ((97 + l.k) ∷ [])) c.has.ensures ∙ ap (letters_to s) (sym e))
    (l.invariant ▹ c.put_if.ensures)

pub returns : goal.returns
unfolding letters_of
returns c =
    let l = c.loop-k in
    let e : l.k ≡ 8 = omega arith in
    put_as (ap (letters_to c.args.s) e) l.invariant
