-- `s` becomes `store_in s from count i v`.
use Prim.Native.Nat.{ℕ, ◌+◌, ◌-◌}
use mathlib.Core.Path.{◌∙◌, ap}
use lib.ListN.{set}
use borrow.Author.Rules.{rules}
use Rattle.in_place.proofs.Stored.{store_inside, store_past}
use Rattle.in_place.proofs.layout.Field.put.Goals as goal

pub returns-then-i-self : goal.returns-then-i-self
returns-then-i-self c =
    let a = c.args in
    ap (λ (q : ℕ). set a.s.now (q + a.i) a.v) c.start.ensures
    ∙ store_inside a.s.now (a.self.end - a.self.count) a.self.count a.i a.v c.if-i-self.true

pub returns-else-i-self : goal.returns-else-i-self
returns-else-i-self c =
    let a = c.args in
    store_past a.s.now (a.self.end - a.self.count) a.self.count a.i a.v (search (rules, c.if-i-self.false))
