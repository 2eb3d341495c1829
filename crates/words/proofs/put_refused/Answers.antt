-- Of a length that is not allowed one text, else three, one behind the other.
use borrow.Author.Tests.{eq-eqb, ne_eqb}
use Rattle.std.proofs.Common.{◌∙◌, sym}
use Rattle.text.specs.Laws.Puts.{◌▹◌}
use Rattle.words.specs.Sentences.{refused_length, setup_sentence}
use Rattle.words.proofs.put_refused.Goals as goal

pub returns-then-number : goal.returns-then-number
unfolding setup_sentence
returns-then-number c =
    rw (eq-eqb _ refused_length (c.if-number.true ∙ c.number.ensures)) c.put_filled.ensures

pub returns : goal.returns
unfolding setup_sentence
returns c =
    rw (ne_eqb _ refused_length (λ e. c.if-number.false (e ∙ sym c.number.ensures))) (c.text.ensures ▹ c.decimal.ensures ▹ c.put_filled-2.ensures)
