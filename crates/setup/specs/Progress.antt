-- What the reader keeps of the records before a record.
pub use Rattle.setup.specs.declared.Progress.{Progress}
use Rattle.std.specs.Prelude.{ℕ, ◌-◌, Bool, cond, List, leb, eqb, ltb}
use Rattle.labels.specs.Decisions.{◌and◌, ◌or◌, ask, asked, at}
use Rattle.rules.specs.Kinds.{kind_of, place_of, allowed_by}
use Rattle.rules.specs.Requests.{directory_kind}
use Rattle.rules.specs.declared.SetupRecord.{SetupRecord}
use Rattle.state.specs.State.{one_more}

abbrev pub fits_after : Progress → ℕ → Bool
fits_after p place = cond (eqb p.kind 0) (eqb place 1) (leb 2 place and leb (kind_of p.kind).place place)

abbrev pub count_after : Progress → ℕ → ℕ
count_after p kind = cond (eqb p.kind kind) p.count 0

-- 19, by the kinds of the objects entered so far and how many there are
unfoldable pub parent_fits_in : List ℕ → ℕ → SetupRecord → Bool
parent_fits_in kinds entered r =
    asked (eqb r.kind 2) (eqb r.six 0 or (ltb (r.six - 1) entered and eqb (at kinds (r.six - 1)) directory_kind))

-- the number of a record, where `fit` answers 19
unfoldable pub number_after : Progress → Bool → SetupRecord → ℕ
number_after p fit r =
    ask (fits_after p (place_of r)) 15 (ask (ltb (count_after p r.kind) (kind_of r.kind).most) 16
    (ask (allowed_by (kind_of r.kind) r) 17 (ask fit 19 0)))

-- before the first record
abbrev pub none_before : Progress
none_before = record { kind = 0; count = 0 }

-- with one record more of a kind; there are never more of it than the most
abbrev pub progress_after : Progress → ℕ → Progress
progress_after p kind = record { kind = kind; count = one_more (kind_of kind).most (count_after p kind) }
