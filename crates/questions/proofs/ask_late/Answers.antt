-- A question that refuses gives its number; one that is answered with yes goes on to the later ones.
use Rattle.std.specs.Prelude.{not}
use Rattle.std.proofs.Common.{ap}
use Rattle.answers.specs.declared.Refusal.TheVariants.{AllObjectsEntered, NoSuchLevel, NotGranted, Undefined}
use Rattle.answers.proofs.Laws.Questions.{goes, last, stops}
use Rattle.questions.specs.Parts.{late_number}
use Rattle.questions.proofs.ask_late.Goals as goal

pub returns-in_err-ask : goal.returns-in_err-ask
unfolding late_number
returns-in_err-ask c =
    stops AllObjectsEntered c.ask.ensures c.room_for.ensures c.in_err-ask.was _ c.from_residual.ensures.1 0 _

pub returns-in_err-ask-2 : goal.returns-in_err-ask-2
unfolding late_number
returns-in_err-ask-2 c =
    goes AllObjectsEntered c.ask.ensures c.room_for.ensures c.in_ok-ask.was
    (stops NoSuchLevel c.ask-2.ensures (rw c.is_set_level.ensures at c.only_if-level.ensures) c.in_err-ask-2.was _ c.from_residual-in_err-ask-2.ensures.1 0 _)

pub returns-in_err-ask-3 : goal.returns-in_err-ask-3
unfolding late_number
returns-in_err-ask-3 c =
    goes AllObjectsEntered c.ask.ensures c.room_for.ensures c.in_ok-ask.was
    (goes NoSuchLevel c.ask-2.ensures (rw c.is_set_level.ensures at c.only_if-level.ensures) c.in_ok-ask-2.was
    (stops NotGranted c.ask-3.ensures (ap not c.is_not_granted.ensures) c.in_err-ask-3.was _ c.from_residual-in_err-ask-3.ensures.1 0 _))

pub returns : goal.returns
unfolding late_number
returns c =
    goes AllObjectsEntered c.ask.ensures c.room_for.ensures c.in_ok-ask.was
    (goes NoSuchLevel c.ask-2.ensures (rw c.is_set_level.ensures at c.only_if-level.ensures) c.in_ok-ask-2.was
    (goes NotGranted c.ask-3.ensures (ap not c.is_not_granted.ensures) c.in_ok-ask-3.was
    (last Undefined c.ask-4.ensures (ap not c.is_undefined.ensures) 0)))
