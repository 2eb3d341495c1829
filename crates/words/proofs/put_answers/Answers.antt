-- The numbers are those of the outcome's answers.
use Rattle.words.proofs.put_answers.Goals as goal

pub returns : goal.returns
returns c =
    rw (c.code-5.ensures, c.code-4.ensures, c.code-3.ensures, c.code-2.ensures, c.code.ensures, c.answers-mac.ensures, c.number-n.ensures)
    at c.put_filled.ensures
