-- "What the modules answer": the answers' numbers and their combination.
pub use Rattle.answers.specs.declared.Answer.{Answer}
pub use Rattle.answers.specs.declared.Answer.TheVariants.{NotCared, Granted, NotGranted, Undefined}
use Rattle.std.specs.Prelude.{ℕ, eqb, leb, Bool, true, false}

-- the paper's number of an answer
abbrev pub code : Answer → ℕ
code NotCared = 0
code Granted = 1
code NotGranted = 2
code Undefined = 3

-- table 4.7: undefined beats all, then not granted, then granted; not cared with not cared stays so
abbrev pub combine : Answer → Answer → Answer
combine NotCared b = b
combine Granted NotCared = Granted
combine Granted Granted = Granted
combine Granted NotGranted = NotGranted
combine Granted Undefined = Undefined
combine NotGranted NotCared = NotGranted
combine NotGranted Granted = NotGranted
combine NotGranted NotGranted = NotGranted
combine NotGranted Undefined = Undefined
combine Undefined b = Undefined

-- the modules' answers combined, MAC first
abbrev pub combine_all : Answer → Answer → Answer → Answer → Answer
combine_all mac fc sim ff = combine mac (combine fc (combine sim ff))

abbrev pub is_not_granted : Answer → Bool
is_not_granted a = eqb (code a) 2

abbrev pub is_undefined : Answer → Bool
is_undefined a = eqb (code a) 3

-- granted where a test holds, else not granted
unfoldable pub grant : Bool → Answer
grant true = Granted
grant false = NotGranted

-- enforced as yes: not cared is enforced like granted
unfoldable pub passes : Answer → Bool
passes a = leb (code a) 1
