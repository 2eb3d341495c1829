-- Table 4.7, row by row.
use mathlib.Core.Path.{◌≡◌, refl}
use Rattle.answers.specs.Answers.{Answer, NotCared, Granted, NotGranted, Undefined, combine}
use Rattle.answers.specs.Table47.{Table47}

symmetry : (a b : Answer) → combine a b ≡ combine b a
symmetry NotCared NotCared = refl
symmetry NotCared Granted = refl
symmetry NotCared NotGranted = refl
symmetry NotCared Undefined = refl
symmetry Granted NotCared = refl
symmetry Granted Granted = refl
symmetry Granted NotGranted = refl
symmetry Granted Undefined = refl
symmetry NotGranted NotCared = refl
symmetry NotGranted Granted = refl
symmetry NotGranted NotGranted = refl
symmetry NotGranted Undefined = refl
symmetry Undefined NotCared = refl
symmetry Undefined Granted = refl
symmetry Undefined NotGranted = refl
symmetry Undefined Undefined = refl

associativity : (a b c : Answer) → combine (combine a b) c ≡ combine a (combine b c)
associativity NotCared b c = refl
associativity Granted NotCared c = refl
associativity Granted Granted NotCared = refl
associativity Granted Granted Granted = refl
associativity Granted Granted NotGranted = refl
associativity Granted Granted Undefined = refl
associativity Granted NotGranted NotCared = refl
associativity Granted NotGranted Granted = refl
associativity Granted NotGranted NotGranted = refl
associativity Granted NotGranted Undefined = refl
associativity Granted Undefined c = refl
associativity NotGranted NotCared c = refl
associativity NotGranted Granted NotCared = refl
associativity NotGranted Granted Granted = refl
associativity NotGranted Granted NotGranted = refl
associativity NotGranted Granted Undefined = refl
associativity NotGranted NotGranted NotCared = refl
associativity NotGranted NotGranted Granted = refl
associativity NotGranted NotGranted NotGranted = refl
associativity NotGranted NotGranted Undefined = refl
associativity NotGranted Undefined c = refl
associativity Undefined b c = refl

pub table_4_7 : Table47
table_4_7 = record { rows = refl; symmetric = symmetry; associative = associativity }
