-- The result is `open_change request`.
use borrow.Author.Tests.{ne_eqb}
use Rattle.rules.specs.Requests.{open_change}
use Rattle.requests.proofs.open_change.Goals as goal

pub returns-in-13 : goal.returns-in-13
unfolding open_change
returns-in-13 c = rw c.in-13.is

pub returns-in-14 : goal.returns-in-14
unfolding open_change
returns-in-14 c = rw c.in-14.is

pub returns-in-20 : goal.returns-in-20
unfolding open_change
returns-in-20 c = rw c.in-20.is

pub returns-in-3 : goal.returns-in-3
unfolding open_change
returns-in-3 c = rw c.in-3.is

pub returns-in-5 : goal.returns-in-5
unfolding open_change
returns-in-5 c = rw c.in-5.is

pub returns-in_default : goal.returns-in_default
unfolding open_change
returns-in_default c =
    let m = c.in_default.in_default-own.rest in
    rw (ne_eqb _ 13 m.0.0.0.0.1, ne_eqb _ 14 m.0.0.0.1, ne_eqb _ 20 m.0.0.1, ne_eqb _ 3 m.0.1, ne_eqb _ 5 m.1)
