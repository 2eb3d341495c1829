-- A text of the table is found by its number, and past the last the text for none.
use mathlib.Core.Path.{ap, ◌∙◌}
use mathlib.Core.List.{List}
use native.Mathlib.Omega.{arith}
use Prim.Native.Nat.{ℕ}
use Rattle.std.proofs.Common.{Bor}
use Rattle.std.specs.Option.{unwrap_or}
use Rattle.text.specs.Laws.Puts.{put_as}
use Rattle.names.proofs.Tables.{word_found}
use Rattle.names.proofs.put_word.Goals as goal

pub returns : goal.returns
returns c =
    let a = c.args in
    put_as
    (c.as_bytes.ensures.value ∙ ap (λ (w : Bor (List ℕ)). w.now) (c.unwrap_or-word.ensures ∙ ap (λ o. unwrap_or o a.none) c.copied.ensures
    ∙ c.get.ensures.lookup.4 (omega arith) a.none)
    ∙ word_found a.none a.words.now a.n) c.text.ensures
