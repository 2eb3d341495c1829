-- The words for kinds, answers, requests, flags, levels, sets of categories, roles, categories, data types, trust and automatic, and what a number says.
use Rattle.std.specs.Prelude.{ℕ, zero, suc, cond, List, [], ◌∷◌, ◌++◌, ◌≡◌, refl, eqb}
use Rattle.rules.specs.FileFlags.{has, read_only, no_execute, no_delete, search_only, add_inherited}
use Rattle.labels.specs.declared.Label.{Label}
use Rattle.labels.specs.Labels.{label, unset, all_categories}
use Rattle.rules.specs.Lines.{decimal, decimal_in}
use Rattle.rules.specs.Text.{ascii}

-- the word of a number; `none` past the last
abbrev pub word_in : List ℕ → List (List ℕ) → ℕ → List ℕ
word_in none [] n = none
word_in none (w ∷ ws) zero = w
word_in none (w ∷ ws) (suc n) = word_in none ws n

abbrev pub no_kind : List ℕ
no_kind = ascii "no kind"

abbrev pub kind_words : List (List ℕ)
kind_words = ascii "file" ∷ ascii "directory" ∷ ascii "channel" ∷ ascii "control data" ∷ []

unfoldable pub kind_word : ℕ → List ℕ
kind_word n = word_in no_kind kind_words n

-- a user's role, and whether the user is trusted
abbrev pub no_role : List ℕ
no_role = ascii "no role"

abbrev pub role_words : List (List ℕ)
role_words = ascii "general" ∷ ascii "security officer" ∷ ascii "system administrator" ∷ []

unfoldable pub role_word : ℕ → List ℕ
role_word n = word_in no_role role_words n

abbrev pub untrusted : List ℕ
untrusted = ascii "untrusted"

abbrev pub trust_words : List (List ℕ)
trust_words = untrusted ∷ ascii "trusted" ∷ []

unfoldable pub trust_word : ℕ → List ℕ
trust_word n = word_in untrusted trust_words n

-- whether a process is automatic
abbrev pub not_automatic : List ℕ
not_automatic = ascii "not automatic"

abbrev pub automatic_words : List (List ℕ)
automatic_words = not_automatic ∷ ascii "automatic" ∷ []

unfoldable pub automatic_word : ℕ → List ℕ
automatic_word n = word_in not_automatic automatic_words n

-- an object's category, which FC looks at, and its data type
abbrev pub no_category : List ℕ
no_category = ascii "no category"

abbrev pub category_words : List (List ℕ)
category_words = ascii "general" ∷ ascii "security" ∷ ascii "system" ∷ []

unfoldable pub category_word : ℕ → List ℕ
category_word n = cond (eqb n unset) (ascii "unset") (word_in no_category category_words n)

abbrev pub no_data_type : List ℕ
no_data_type = ascii "no data type"

abbrev pub data_type_words : List (List ℕ)
data_type_words = ascii "none" ∷ ascii "security information" ∷ []

unfoldable pub data_type_word : ℕ → List ℕ
data_type_word n = word_in no_data_type data_type_words n

abbrev pub no_answer : List ℕ
no_answer = ascii "no answer"

abbrev pub answer_words : List (List ℕ)
answer_words = ascii "not cared" ∷ ascii "granted" ∷ ascii "not granted" ∷ ascii "undefined" ∷ []

unfoldable pub answer_word : ℕ → List ℕ
answer_word n = word_in no_answer answer_words n

abbrev pub no_request : List ℕ
no_request = ascii "no request"

abbrev pub request_words : List (List ℕ)
request_words =
    ascii "alter" ∷ ascii "change-owner" ∷ ascii "clone" ∷ ascii "close" ∷ ascii "create" ∷ ascii "delete" ∷ ascii "delete-data" ∷ ascii "execute"
    ∷ ascii "get-permissions-data" ∷ ascii "get-status-data" ∷ ascii "modify-access-data" ∷ ascii "modify-permissions-data" ∷ ascii "read"
    ∷ ascii "read-open" ∷ ascii "read&write-open" ∷ ascii "search" ∷ ascii "send-signal" ∷ ascii "set-level" ∷ ascii "terminate" ∷ ascii "write"
    ∷ ascii "write-open" ∷ ascii "login" ∷ []

unfoldable pub request_word : ℕ → List ℕ
request_word n = word_in no_request request_words n

-- the word of a flag, which is a bit
unfoldable pub flag_word : ℕ → List ℕ
flag_word m =
    cond (eqb m read_only) (ascii "read-only")
    (cond (eqb m no_execute) (ascii "no-execute")
    (cond (eqb m no_delete) (ascii "no-delete")
    (cond (eqb m search_only) (ascii "search-only") (cond (eqb m add_inherited) (ascii "add-inherited") (ascii "no flag")))))

-- what a number says: 0, the refusals of a call, 1 to 13, and those of a set-up, 14 to 19
abbrev pub no_number : List ℕ
no_number = ascii "no number"

abbrev pub number_words : List (List ℕ)
number_words =
    ascii "accepted" ∷ ascii "no such request" ∷ ascii "no such process number" ∷ ascii "process does not run" ∷ ascii "process number is not free"
    ∷ ascii "no such user" ∷ ascii "object is not live" ∷ ascii "object's kind lacks the request" ∷ ascii "no such kind"
    ∷ ascii "object is not open in that mode" ∷ ascii "128 objects are entered" ∷ ascii "no such level" ∷ ascii "not granted" ∷ ascii "undefined"
    ∷ ascii "length is not allowed" ∷ ascii "kind does not fit the place" ∷ ascii "too many users or objects" ∷ ascii "a byte is not allowed"
    ∷ ascii "buffer is too short" ∷ ascii "parent is no earlier directory" ∷ []

unfoldable pub number_word : ℕ → List ℕ
number_word n = word_in no_number number_words n

-- an object's level
unfoldable pub level_word : ℕ → List ℕ
level_word n = cond (eqb n unset) (ascii "unset") (decimal n)

-- a set of categories: a letter for each, from the low bit on, with a blank before them; nothing for none, and a word for all eight
unfoldable pub letter_word : ℕ → List ℕ → ℕ → List ℕ
letter_word m letter s = cond (has m s) letter []

unfoldable pub letters_of : ℕ → List ℕ
letters_of s =
    letter_word 1 (ascii "a") s ++ letter_word 2 (ascii "b") s ++ letter_word 4 (ascii "c") s ++ letter_word 8 (ascii "d") s
    ++ letter_word 16 (ascii "e") s ++ letter_word 32 (ascii "f") s ++ letter_word 64 (ascii "g") s ++ letter_word 128 (ascii "h") s

unfoldable pub set_word : ℕ → List ℕ
set_word s = cond (eqb s 0) [] (cond (eqb s all_categories) (ascii " all") (ascii " " ++ letters_of s))

example : set_word 0 ++ set_word 1 ++ set_word 130 ++ set_word 127 ++ set_word 254 ++ set_word 255 ≡ ascii " a bh abcdefg bcdefgh all"
unfolding has letter_word letters_of set_word
example = refl

-- a label: its level and its set
unfoldable pub label_word : Label → List ℕ
label_word l = level_word l.level ++ set_word l.set

labels : label_word (label 3 3) ++ label_word (label unset 0) ++ label_word (label 15 all_categories) ≡ ascii "3 abunset15 all"
unfolding decimal_in has letter_word letters_of set_word level_word label_word
labels = refl
