-- Each arm by its key.
use borrow.Author.Tests.{ne_eqb}
use Rattle.rules.specs.Kinds.{kind_of}
use Rattle.setup.proofs.kind_of.Goals as goal

pub returns-in-3 : goal.returns-in-3
unfolding kind_of
returns-in-3 c = rw c.in-3.is c.switches_kind.ensures

pub returns-in-1 : goal.returns-in-1
unfolding kind_of
returns-in-1 c = rw c.in-1.is c.users_kind.ensures

pub returns-in-2 : goal.returns-in-2
unfolding kind_of
returns-in-2 c = rw c.in-2.is c.objects_kind.ensures

pub returns-in_default : goal.returns-in_default
unfolding kind_of
returns-in_default c =
    let m = c.in_default.in_default-own.rest in
    rw (ne_eqb _ 3 m.0.0.1, ne_eqb _ 1 m.0.1, ne_eqb _ 2 m.1) c.no_kind.ensures
