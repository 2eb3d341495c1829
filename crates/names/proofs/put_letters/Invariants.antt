-- The letters of the categories so far are stored.
use Rattle.text.specs.Stored.{Put}
use Rattle.names.proofs.Letters.{letters_to}
use Rattle.names.proofs.put_letters.Given as goal

abbrev pub invariant-loop-k : goal.invariant-loop-k
invariant-loop-k l = Put l.fn.out (letters_to l.s l.k) l.out
