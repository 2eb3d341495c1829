-- Texts with numbers in them. A pattern is a text with signs; each sign stands for the next of a list of numbers, said in the sign's way.
use Rattle.std.specs.Prelude.{ℕ, ◌+◌, ◌≡◌, refl, Bool, cond, List, [], ◌∷◌, ◌++◌, eqb, ltb}
use Prim.Native.String.{String}
use Rattle.rules.specs.Lines.{decimal, decimal_in}
use Rattle.rules.specs.Text.{ascii}
use Rattle.labels.specs.Decisions.{◌and◌, ◌or◌, at}
use Rattle.names.specs.Words.{kind_word, answer_word, request_word, flag_word, number_word, level_word, set_word, role_word, trust_word, automatic_word}
use Rattle.names.specs.Words.{category_word, data_type_word}

infix 40 ◌is◌
abbrev ◌is◌ : ℕ → String → Bool
x is sign = eqb x (at (ascii sign) 0)

-- a number at a sign: # in decimal, $ as a level, % as a kind, & as a request, ' as an answer, " as a flag, ! by what it says, * as a set of
-- categories, @ as a role, < by whether it is trusted, > by whether it is automatic, = as a category, ? as a data type; any other byte is itself
unfoldable pub said : ℕ → ℕ → List ℕ
said x n =
    cond (x is "#") (decimal n)
    (cond (x is "$") (level_word n)
    (cond (x is "%") (kind_word n)
    (cond (x is "&") (request_word n)
    (cond (x is "'") (answer_word n)
    (cond (x is "\"") (flag_word n)
    (cond (x is "!") (number_word n)
    (cond (x is "*") (set_word n)
    (cond (x is "@") (role_word n)
    (cond (x is "<") (trust_word n)
    (cond (x is ">") (automatic_word n) (cond (x is "=") (category_word n) (cond (x is "?") (data_type_word n) (x ∷ [])))))))))))))

-- how many numbers a byte takes: one where it is a sign, that is one of ! to ' (33 to 39), * (42), or one of < to @ (60 to 64)
abbrev pub signs : ℕ → ℕ
signs x = cond (eqb x 42) 1 (cond ((ltb 32 x and ltb x 40) or (ltb 59 x and ltb x 65)) 1 0)

-- a pattern whose signs stand for the numbers from the i-th on
unfoldable pub filled_from : ℕ → List ℕ → List ℕ → List ℕ
filled_from i [] ns = []
filled_from i (x ∷ xs) ns = said x (at ns i) ++ filled_from (i + signs x) xs ns

abbrev pub filled : List ℕ → List ℕ → List ℕ
filled xs ns = filled_from 0 xs ns

example : filled (ascii "object # (%, level $)") (17 ∷ 0 ∷ 255 ∷ []) ≡ ascii "object 17 (file, level unset)"
unfolding decimal_in kind_word level_word said filled_from ◌and◌ ◌or◌
example = refl

qualities : filled (ascii "@ < > = ?#") (1 ∷ 1 ∷ 0 ∷ 255 ∷ 1 ∷ 7 ∷ []) ≡ ascii "security officer trusted not automatic unset security information7"
unfolding decimal_in role_word trust_word automatic_word category_word data_type_word said filled_from ◌and◌ ◌or◌
qualities = refl
