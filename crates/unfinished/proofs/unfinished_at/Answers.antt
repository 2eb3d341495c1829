-- Four bytes from the place of the process on.
use Rattle.unfinished.specs.Unfinished.{unfinished_in}
use Rattle.unfinished.proofs.unfinished_at.Goals as goal

pub returns : goal.returns
unfolding unfinished_in
returns c =
    λ i. record { request = c.at.ensures i; target = c.at-2.ensures i; extra = c.at-3.ensures i; first = c.at-4.ensures i }
