-- "The run program": what it prints, as bytes.
use Rattle.std.specs.Prelude.{Err, Ok}
use Rattle.std.specs.Prelude.{ℕ, zero, suc, ◌+◌, ◌/◌, ◌%◌, true, false, cond, List, [], ◌∷◌, ◌++◌, ltb, eqb, length}
use Rattle.rules.specs.Types.{SetupOutcome, Call, Facility}
use Rattle.answers.specs.Outcomes.{number_of, answers_of}
use Rattle.state.specs.State.{process_of, runs}
use Rattle.answers.specs.Answers.{code}
use Rattle.rules.specs.Calls.{query, after}
use Rattle.rules.specs.Text.{ascii}
use Rattle.rules.specs.Setup.{read_setup}

abbrev pub blank : ℕ
blank = 32

abbrev pub line_feed : ℕ
line_feed = 10

abbrev pub hyphen : ℕ
hyphen = 45

-- a number in decimal, with no leading zero; `most` bounds how many digits are written
unfoldable pub decimal_in : ℕ → ℕ → List ℕ
decimal_in zero n = []
decimal_in (suc most) n =
    elim (ltb n 10) [ true ↦ (48 + n) ∷ [] | false ↦ decimal_in most (n / 10) ++ ((48 + n % 10) ∷ []) ]

abbrev pub decimal : ℕ → List ℕ
decimal n = decimal_in (suc n) n

-- a number with a blank behind it
abbrev pub field : ℕ → List ℕ
field n = decimal n ++ (blank ∷ [])

-- p's current level, or a hyphen where p does not run
unfoldable pub level_text : Facility → ℕ → List ℕ
level_text f p = cond (runs f p) (decimal (process_of f p).current.level) (hyphen ∷ [])

-- the line of call c, the i-th, enforced on f: index, the four bytes, refusal number, combined answer, p's current level after it
unfoldable pub call_line : ℕ → Facility → Call → List ℕ
call_line i f c =
    field i ++ field c.request ++ field c.process ++ field c.target ++ field c.extra
    ++ field (number_of (query f c)) ++ field (code (answers_of (query f c)).combined)
    ++ level_text (after f c) c.process ++ (line_feed ∷ [])

-- the calls of the bytes s: four bytes each; one to three left-over bytes are no call
unfoldable pub calls_of : List ℕ → List Call
calls_of [] = []
calls_of (r ∷ []) = []
calls_of (r ∷ p ∷ []) = []
calls_of (r ∷ p ∷ t ∷ []) = []
calls_of (r ∷ p ∷ t ∷ e ∷ s) = record { request = r; process = p; target = t; extra = e } ∷ calls_of s

unfoldable pub call_lines : ℕ → Facility → List Call → List ℕ
call_lines i f [] = []
call_lines i f (c ∷ cs) = call_line i f c ++ call_lines (i + 1) (after f c) cs

-- `set-up`, number and index of a refused set-up
unfoldable pub setup_line : ℕ → ℕ → List ℕ
setup_line n i =
    ascii "set-up " ++ field n ++ decimal i ++ (line_feed ∷ [])

-- `short`, where one to three bytes are left over
unfoldable pub short_line : List ℕ → List ℕ
short_line s = cond (eqb (length s % 4) 0) [] (ascii "short\n")

unfoldable pub printed : SetupOutcome → Facility → List ℕ → List ℕ
printed (Ok u) f calls = call_lines 1 f (calls_of calls) ++ short_line calls
printed (Err r) f calls = setup_line r.number r.index

-- what is printed for the bytes of `setup.bin` and of standard input
abbrev pub output : List ℕ → List ℕ → List ℕ
output setup calls = printed (read_setup setup).outcome (read_setup setup).facility calls
