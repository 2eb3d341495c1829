-- A question that refuses gives its number; one that is answered with yes goes on to the later ones.
use Rattle.std.proofs.Common.{refl}
use Rattle.setup.specs.Progress.{number_after}
use Rattle.answers.specs.declared.Refusal.TheVariants.{Place, TooMany, Byte, Parent}
use Rattle.answers.proofs.Laws.Questions.{goes, last, stops}
use Rattle.setup.proofs.ask_record.Goals as goal

pub returns-in_err-ask : goal.returns-in_err-ask
unfolding number_after
returns-in_err-ask c =
    stops Place c.ask.ensures (rw c.kind_of-d.ensures at c.fits.ensures) c.in_err-ask.was _ c.from_residual.ensures.1 0 _

pub returns-in_err-ask-2 : goal.returns-in_err-ask-2
unfolding number_after
returns-in_err-ask-2 c =
    goes Place c.ask.ensures (rw c.kind_of-d.ensures at c.fits.ensures) c.in_ok-ask.was
    (stops TooMany c.ask-2.ensures (rw (c.kind_of-d.ensures, c.count_of.ensures) refl) c.in_err-ask-2.was _ c.from_residual-in_err-ask-2.ensures.1 0 _)

pub returns-in_err-ask-3 : goal.returns-in_err-ask-3
unfolding number_after
returns-in_err-ask-3 c =
    goes Place c.ask.ensures (rw c.kind_of-d.ensures at c.fits.ensures) c.in_ok-ask.was
    (goes TooMany c.ask-2.ensures (rw (c.kind_of-d.ensures, c.count_of.ensures) refl) c.in_ok-ask-2.was
    (stops Byte c.ask-3.ensures (rw c.kind_of-d.ensures at c.allowed_by.ensures) c.in_err-ask-3.was _ c.from_residual-in_err-ask-3.ensures.1 0 _))

pub returns : goal.returns
unfolding number_after
returns c =
    goes Place c.ask.ensures (rw c.kind_of-d.ensures at c.fits.ensures) c.in_ok-ask.was
    (goes TooMany c.ask-2.ensures (rw (c.kind_of-d.ensures, c.count_of.ensures) refl) c.in_ok-ask-2.was
    (goes Byte c.ask-3.ensures (rw c.kind_of-d.ensures at c.allowed_by.ensures) c.in_ok-ask-3.was
    (last Parent c.ask-4.ensures refl 0)))
