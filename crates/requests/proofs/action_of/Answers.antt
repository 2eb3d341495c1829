-- Each arm by its key; what is left below 22 acts on an object.
use mathlib.Core.Path.{sym}
use Rattle.rules.specs.Requests.{action_of}
use Rattle.requests.specs.Laws.Actions.{below_last, acts_on_object, past_is_unknown}
use Rattle.requests.proofs.action_of.Goals as goal

pub returns-then-request-gt-LAST : goal.returns-then-request-gt-LAST
returns-then-request-gt-LAST c = sym (past_is_unknown _ c.if-request-gt-LAST.true)

pub returns-in-2 : goal.returns-in-2
unfolding action_of
returns-in-2 c = rw c.in-2.is

pub returns-in-4 : goal.returns-in-4
unfolding action_of
returns-in-4 c = rw c.in-4.is

pub returns-in-16 : goal.returns-in-16
unfolding action_of
returns-in-16 c = rw c.in-16.is

pub returns-in-17 : goal.returns-in-17
unfolding action_of
returns-in-17 c = rw c.in-17.is

pub returns-in-18 : goal.returns-in-18
unfolding action_of
returns-in-18 c = rw c.in-18.is

pub returns-in-21 : goal.returns-in-21
unfolding action_of
returns-in-21 c = rw c.in-21.is

pub returns-in_default : goal.returns-in_default
returns-in_default c =
    let m = c.in_default.in_default-own.rest in
    sym (acts_on_object c.args.request m.0.0.0.0.0.1 m.0.0.0.0.1 m.0.0.0.1 m.0.0.1 m.0.1 m.1
    (below_last _ c.if-request-gt-LAST.false m.1))
