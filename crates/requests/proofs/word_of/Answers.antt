-- The one computed test of the table, at each of its six words. The arms are the six, since i is below 6.
use native.Mathlib.Omega.{arith}
use mathlib.Core.Path.{◌≡◌}
use mathlib.Core.Logic.{◌≢◌}
use Prim.Native.Nat.{ℕ, ◌<◌}
use Rattle.requests.specs.ClassCodes.{word_right}
use Rattle.requests.proofs.word_of.Goals as goal

last : (i : ℕ) → i < 6 → i ≢ 0 → i ≢ 1 → i ≢ 2 → i ≢ 3 → i ≢ 4 → i ≡ 5
last i h a b c d e = omega arith

pub returns-in-0 : goal.returns-in-0
unfolding word_right
returns-in-0 c = rw c.in-0.is

pub returns-in-1 : goal.returns-in-1
unfolding word_right
returns-in-1 c = rw c.in-1.is

pub returns-in-2 : goal.returns-in-2
unfolding word_right
returns-in-2 c = rw c.in-2.is

pub returns-in-3 : goal.returns-in-3
unfolding word_right
returns-in-3 c = rw c.in-3.is

pub returns-in-4 : goal.returns-in-4
unfolding word_right
returns-in-4 c = rw c.in-4.is

pub returns-in_default : goal.returns-in_default
unfolding word_right
returns-in_default c =
    let m = c.in_default.in_default-own.rest in
    rw (last c.args.i c.requires m.0.0.0.0.1 m.0.0.0.1 m.0.0.1 m.0.1 m.1)
