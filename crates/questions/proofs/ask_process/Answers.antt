-- A question that refuses gives its number; one that is answered with yes goes on to the later ones.
use Rattle.std.proofs.Common.{refl}
use Rattle.questions.specs.Parts.{process_number}
use Rattle.answers.specs.declared.Refusal.TheVariants.{NoSuchRequest, NoSuchProcess, NotRunning, NotFree, NoSuchUser}
use Rattle.answers.proofs.Laws.Questions.{goes, last, stops}
use Rattle.questions.proofs.ask_process.Goals as goal

pub returns-in_err-ask : goal.returns-in_err-ask
unfolding process_number
returns-in_err-ask c later =
    stops NoSuchRequest c.ask.ensures refl c.in_err-ask.was _ c.from_residual.ensures.1 later _

pub returns-in_err-ask-2 : goal.returns-in_err-ask-2
unfolding process_number
returns-in_err-ask-2 c later =
    goes NoSuchRequest c.ask.ensures refl c.in_ok-ask.was
    (stops NoSuchProcess c.ask-2.ensures c.in_range.ensures c.in_err-ask-2.was _ c.from_residual-in_err-ask-2.ensures.1 later _)

pub returns-in_err-ask-3 : goal.returns-in_err-ask-3
unfolding process_number
returns-in_err-ask-3 c later =
    goes NoSuchRequest c.ask.ensures refl c.in_ok-ask.was
    (goes NoSuchProcess c.ask-2.ensures c.in_range.ensures c.in_ok-ask-2.was
    (stops NotRunning c.ask-3.ensures c.is_running.ensures c.in_err-ask-3.was _ c.from_residual-in_err-ask-3.ensures.1 later _))

pub returns-in_err-ask-4 : goal.returns-in_err-ask-4
unfolding process_number
returns-in_err-ask-4 c later =
    goes NoSuchRequest c.ask.ensures refl c.in_ok-ask.was
    (goes NoSuchProcess c.ask-2.ensures c.in_range.ensures c.in_ok-ask-2.was
    (goes NotRunning c.ask-3.ensures c.is_running.ensures c.in_ok-ask-3.was
    (stops NotFree c.ask-4.ensures c.is_free.ensures c.in_err-ask-4.was _ c.from_residual-in_err-ask-4.ensures.1 later _)))

pub returns : goal.returns
unfolding process_number
returns c later =
    goes NoSuchRequest c.ask.ensures refl c.in_ok-ask.was
    (goes NoSuchProcess c.ask-2.ensures c.in_range.ensures c.in_ok-ask-2.was
    (goes NotRunning c.ask-3.ensures c.is_running.ensures c.in_ok-ask-3.was
    (goes NotFree c.ask-4.ensures c.is_free.ensures c.in_ok-ask-4.was
    (last NoSuchUser c.ask-5.ensures (rw c.is_login.ensures at c.only_if-user.ensures) later))))
