-- The codes of classes in the constant table, and the one computed test that ties the table to the paper's lists.
use Rattle.std.specs.Prelude.{ℕ, zero, suc, ◌+◌, ◌*◌, ◌/◌, ◌%◌, ◌^◌, Bool, true, cond, eqb}
use Rattle.labels.specs.Decisions.{◌and◌}
use Rattle.rules.specs.declared.Class.{Class}
use Rattle.rules.specs.declared.Class.TheVariants.{Absent, Reads, Writes, Both, NoCondition}
use Rattle.rules.specs.Requests.{class_code, class_of, class_among, list_of, files, directories, channels, control_data}

abbrev pub class_named : ℕ → Class
class_named n = cond (eqb n 1) Reads (cond (eqb n 2) Writes (cond (eqb n 3) Both (cond (eqb n 4) NoCondition Absent)))

-- a test passes at each number below n
abbrev pub each : (ℕ → Bool) → ℕ → Bool
each f zero = true
each f (suc n) = f n and each f n

-- the code of a request and a kind, at place i of the table: a row of four kinds for each request
abbrev pub code_at : ℕ → ℕ
code_at i = class_code (class_of (i / 4) (i % 4))

-- the sixteen octal digits of w, word i of the table, are the codes at its places
abbrev pub digit_right : ℕ → ℕ → ℕ → Bool
digit_right i w j = eqb (w / 2 ^ (j * 3) % 8) (code_at (i * 16 + j))

unfoldable pub word_right : ℕ → ℕ → Bool
unfolding ◌and◌ class_of list_of class_among files directories channels control_data
word_right i w = each (digit_right i w) 16
