-- Four stores, one after the other.
use Prim.Native.Nat.{ℕ, ◌+◌, ◌*◌}
use mathlib.Core.List.{List}
use mathlib.Core.Path.{◌∙◌, ap}
use lib.ListN.{set}
use Rattle.unfinished.specs.Unfinished.{with_unfinished}
use Rattle.unfinished.proofs.put_unfinished.Goals as goal

pub returns : goal.returns
unfolding with_unfinished
returns c =
    let a = c.args in
    let i = 4 * a.p in
    let u = a.u in
    c.put-4.ensures
    ∙ ap (λ (l : List ℕ). set l (i + 3) u.first) (c.put-3.ensures
    ∙ ap (λ (l : List ℕ). set l (i + 2) u.extra) (c.put-2.ensures
    ∙ ap (λ (l : List ℕ). set l (i + 1) u.target) c.put.ensures))
