-- Ticket 2, "File flags": the flags of an object, those that it inherits, and what they forbid.
use Rattle.std.specs.Prelude.{ℕ, zero, suc, ◌-◌, Bool, not, cond, leb, ltb, eqb}
use Rattle.std.specs.Int.Bits.{bit_or, bit_and}
use Rattle.labels.specs.Decisions.{◌and◌, ◌or◌, at, on}
use Rattle.answers.specs.Outcomes.{no_object}
use Rattle.state.specs.State.{Objects}
use Rattle.rules.specs.Requests.{Class, alters, delete_request, execute_request, search_request, write_request, directory_kind}

-- the flags, each a bit of an object's byte, and all of them
abbrev pub read_only : ℕ
read_only = 1

abbrev pub no_execute : ℕ
no_execute = 2

abbrev pub no_delete : ℕ
no_delete = 4

abbrev pub search_only : ℕ
search_only = 8

abbrev pub add_inherited : ℕ
add_inherited = 128

abbrev pub all_flags : ℕ
all_flags = 143

-- whether flag m is among v
unfoldable pub has : ℕ → ℕ → Bool
has m v = not (eqb (bit_and v m) 0)

-- all of v but no-delete
abbrev pub without_no_delete : ℕ → ℕ
without_no_delete v = bit_and v 251

-- object t's own flags, and its parent directory's number plus 1, 0 for none
abbrev pub flags_of : Objects → ℕ → ℕ
flags_of x t = at x.flags t

abbrev pub parent_of : Objects → ℕ → ℕ
parent_of x t = at x.parents t

-- a parent counts where it is live: a deleted one counts as none. All parents are earlier (`Inheritance.parents`); in bytes that no set-up
-- and no call made, a later one counts as none
unfoldable pub has_parent : Objects → ℕ → Bool
has_parent x t = ltb 0 (parent_of x t) and leb (parent_of x t) t and on (at x.lives (parent_of x t - 1))

-- whether t inherits: its own flag says so, and it has a parent
unfoldable pub inherits : Objects → ℕ → Bool
inherits x t = has add_inherited (flags_of x t) and has_parent x t

-- the own ones and, with add-inherited, the parent's effective ones without no-delete; n bounds how far up
unfoldable pub effective_in : ℕ → Objects → ℕ → ℕ
effective_in zero x t = flags_of x t
effective_in (suc n) x t =
    bit_or (flags_of x t) (cond (inherits x t) (without_no_delete (effective_in n x (parent_of x t - 1))) 0)

-- a parent is earlier, so t bounds it (`Inheritance.effectively` has no bound)
abbrev pub effective : Objects → ℕ → ℕ
effective x t = effective_in t x t

-- the flag by which v forbids a request of class k on an object of a kind, the first such, 0 where none does: read-only forbids W, B and
-- write, no-execute execute, no-delete delete, search-only every request on a directory but search
unfoldable pub forbidding : ℕ → ℕ → Class → ℕ → ℕ
forbidding v request k kind =
    cond (has read_only v and (alters k or eqb request write_request)) read_only
    (cond (has no_execute v and eqb request execute_request) no_execute
    (cond (has no_delete v and eqb request delete_request) no_delete
    (cond (has search_only v and eqb kind directory_kind and not (eqb request search_request)) search_only 0)))

abbrev pub forbids : ℕ → ℕ → Class → ℕ → Bool
forbids v request k kind = not (eqb (forbidding v request k kind) 0)

-- the object whose own flag m it is that t has: t, or the nearest up the chain; 255 where t has none of it. No-delete is not looked for further up
unfoldable pub source_in : ℕ → Objects → ℕ → ℕ → ℕ
source_in zero x t m = cond (has m (flags_of x t)) t no_object
source_in (suc n) x t m =
    cond (has m (flags_of x t)) t (cond (inherits x t) (source_in n x (parent_of x t - 1) (without_no_delete m)) no_object)

abbrev pub flag_source : Objects → ℕ → ℕ → ℕ
flag_source x t m = source_in t x t m
