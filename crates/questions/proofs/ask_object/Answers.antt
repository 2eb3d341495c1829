-- A question that refuses gives its number; one that is answered with yes goes on to the later ones.
use Rattle.questions.specs.Parts.{object_number}
use Rattle.answers.specs.declared.Refusal.TheVariants.{NoSuchKind, NotLive, KindLacksRequest, NotOpen}
use Rattle.answers.proofs.Laws.Questions.{goes, last, stops}
use Rattle.questions.proofs.ask_object.Goals as goal

pub returns-in_err-ask : goal.returns-in_err-ask
unfolding object_number
returns-in_err-ask c later =
    stops NoSuchKind c.ask.ensures (rw c.is_create.ensures at c.only_if-kind.ensures) c.in_err-ask.was _ c.from_residual.ensures.1 later _

pub returns-in_err-ask-2 : goal.returns-in_err-ask-2
unfolding object_number
returns-in_err-ask-2 c later =
    goes NoSuchKind c.ask.ensures (rw c.is_create.ensures at c.only_if-kind.ensures) c.in_ok-ask.was
    (stops NotLive c.ask-2.ensures c.only_if.ensures c.in_err-ask-2.was _ c.from_residual-in_err-ask-2.ensures.1 later _)

pub returns-in_err-ask-3 : goal.returns-in_err-ask-3
unfolding object_number
returns-in_err-ask-3 c later =
    goes NoSuchKind c.ask.ensures (rw c.is_create.ensures at c.only_if-kind.ensures) c.in_ok-ask.was
    (goes NotLive c.ask-2.ensures c.only_if.ensures c.in_ok-ask-2.was
    (stops KindLacksRequest c.ask-3.ensures (rw c.is_absent.ensures at c.only_if-2.ensures) c.in_err-ask-3.was _
    c.from_residual-in_err-ask-3.ensures.1 later _))

pub returns : goal.returns
unfolding object_number
returns c later =
    goes NoSuchKind c.ask.ensures (rw c.is_create.ensures at c.only_if-kind.ensures) c.in_ok-ask.was
    (goes NotLive c.ask-2.ensures c.only_if.ensures c.in_ok-ask-2.was
    (goes KindLacksRequest c.ask-3.ensures (rw c.is_absent.ensures at c.only_if-2.ensures) c.in_ok-ask-3.was
    (last NotOpen c.ask-4.ensures (rw (c.open_for.ensures, c.is_no_condition.ensures) at (rw c.only_if-open.ensures at c.only_if-3.ensures)) later)))
