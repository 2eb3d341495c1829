-- Nothing, one text, or a blank and the letters.
use borrow.Author.Tests.{eq-eqb, ne_eqb}
use Rattle.text.specs.Laws.Puts.{◌▹◌}
use Rattle.names.specs.Words.{set_word}
use Rattle.names.proofs.put_set.Goals as goal

pub returns-then-s-eq0 : goal.returns-then-s-eq0
unfolding set_word
returns-then-s-eq0 c = rw (eq-eqb _ 0 c.if-s-eq0.true) c.nothing.ensures

pub returns-then-s-eq-ALL_CATEGORIES : goal.returns-then-s-eq-ALL_CATEGORIES
unfolding set_word
returns-then-s-eq-ALL_CATEGORIES c =
    rw (ne_eqb _ 0 c.if-s-eq0.false, eq-eqb _ 255 c.if-s-eq-ALL_CATEGORIES.true) c.text.ensures

pub returns : goal.returns
unfolding set_word
returns c =
    rw (ne_eqb _ 0 c.if-s-eq0.false, ne_eqb _ 255 c.if-s-eq-ALL_CATEGORIES.false) (c.text-2.ensures ▹ c.put_letters.ensures)
