-- A byte of a part of the bytes, and past its end.
use Prim.Native.Nat.{ℕ, ◌+◌, ◌<◌, ◌≤◌}
use mathlib.Core.Path.{◌≡◌, sym, ◌∙◌}
use mathlib.Core.List.{List}
use lib.ListN.{drop, length-take, get_or-eq_default}
use lib.Seq.{get_or-take, get_or-drop}
use native.Mathlib.Omega.{arith}
use Rattle.labels.specs.Decisions.{at}
use Rattle.in_place.specs.Layout.{part}

-- a byte of a part, and past its end
pub byte_in : (s : List ℕ) (from n i : ℕ) → i < n → at s (from + i) ≡ at (part s from n) i
byte_in s from n i h = sym (get_or-take n (drop from s) i 0 h ∙ get_or-drop from s i 0)

pub byte_past : (s : List ℕ) (from n i : ℕ) → n ≤ i → 0 ≡ at (part s from n) i
byte_past s from n i h =
    let e = length-take n (drop from s) in
    sym (get_or-eq_default (part s from n) 0 {n = i} (omega arith))
