-- The text `text` is stored.
use Rattle.std.specs.Prelude.{ℕ, ◌+◌, ◌-◌, ◌≡◌, refl, min, length}
use Rattle.std.proofs.Common.{rules, sym, ◌∙◌, ap, length-set, arith}
use Rattle.std.proofs.lemmas.List.Edits.{sets}
use Rattle.text.specs.Laws.Stored.{store_done, store_more, store_none}
use Rattle.text.proofs.Out.text.Goals as goal

pub returns-then-size-self : goal.returns-then-size-self
returns-then-size-self c =
    let out = c.args.self.now in
    record { stored = store_none out.bytes.now c.args.text.now out.place c.if-size-self.true; same = refl }

pub loop-j-init : goal.loop-j-init
loop-j-init c =
    let out = c.args.self.now in
    (refl, (let e : out.place + 0 ≡ out.place = omega arith in ap (λ (k : ℕ). sets out.bytes.now k c.args.text.now) e), refl)

pub loop-j-preserved : goal.loop-j-preserved
loop-j-preserved c =
    let l = c.loop-j in
    let out = c.args.self.now in (
      length-set l.self.bytes.now (out.place + l.j) _ ∙ l.invariant.0,
      store_more out.bytes.now l.self.bytes.now c.args.text.now out.place l.j (search rules) l.invariant.1,
      l.invariant.2,
    )

pub returns : goal.returns
returns c =
    let l = c.loop-j in
    let out = c.args.self.now in
    let xs = c.args.text.now in
    let e : l.j ≡ c.min-n.result = search rules in
    let m : c.min-n.result ≡ min (length out.bytes.now - out.place) (length xs) = omega arith in
    let s = store_done out.bytes.now l.self.bytes.now xs out.place l.j (search rules) (e ∙ m) l.invariant.0 l.invariant.1 in
    record { stored = (s.0, ap (λ (k : ℕ). out.place + k) (sym e) ∙ s.1); same = l.invariant.2 }
