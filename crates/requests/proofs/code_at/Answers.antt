-- A digit of the table's word is the code: the word is `word_of`'s, which is right by the computed test.
use borrow.Author.Rules.{rules}
use mathlib.Core.Path.{refl}
use Rattle.requests.proofs.ClassCodes.{coded}
use Rattle.requests.proofs.code_at.Goals as goal

pub returns : goal.returns
returns c = coded _ _ _ _ refl (search rules) c.word_of-word.ensures
