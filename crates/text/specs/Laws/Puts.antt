-- Texts put one behind the other are one text put.
use Rattle.std.specs.Prelude.{ℕ, ◌≡◌, List, ◌++◌}
use Rattle.std.proofs.Common.{◌∙◌, subst}
use Rattle.std.specs.Borrow.{MutBor}
use Rattle.io.specs.Counts.{IsPrefixLen}
use Rattle.text.specs.declared.Out.{Out}
use Rattle.text.specs.Stored.{Put, out_at}
use Rattle.text.specs.Laws.Stored.{counts, then}

pub put_then : {a b d : Out} {xs ys : List ℕ} → Put a xs b → Put b ys d → Put a (xs ++ ys) d
put_then {a} {b} {d} {xs} {ys} p q =
    record { stored = then a.bytes.now b.bytes.now d.bytes.now a.place b.place d.place xs ys p.stored q.stored; same = q.same ∙ p.same }

-- the same between its two stores, for many: p ▹ q ▹ r
infixl 20 ◌▹◌
abbrev pub ◌▹◌ : {a b d : Out} {xs ys : List ℕ} → Put a xs b → Put b ys d → Put a (xs ++ ys) d
p ▹ q = put_then p q

-- the same text, said in another way
pub put_as : {a b : Out} {xs ys : List ℕ} → xs ≡ ys → Put a xs b → Put a ys b
put_as {a} {b} e p = subst (λ (t : List ℕ). Put a t b) e p

-- the place behind a store counts bytes of the buffer
pub put_counts : {a b : Out} {xs : List ℕ} → Put a xs b → IsPrefixLen b.place b.bytes.now
put_counts {a} {b} {xs} p = counts a.bytes.now b.bytes.now xs a.place b.place p.stored

-- what is stored in all, from the place on at which the Out began
pub put_from : {a b : Out} {r : MutBor (List ℕ)} {p : ℕ} {xs : List ℕ} → a ≡ out_at r p → Put a xs b → Put (out_at r p) xs b
put_from {a} {b} {r} {p} {xs} e s = subst (λ (x : Out). Put x xs b) e s
