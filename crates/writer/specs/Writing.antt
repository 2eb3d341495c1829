-- Records stored into a lent buffer, and the records of users and live objects.
use Rattle.std.specs.Prelude.{ℕ, ◌+◌, ◌*◌, Bool, cond, List, [], ◌∷◌, map, ◌≡◌, leb, length}
use Rattle.std.proofs.lemmas.List.Edits.{sets}
use Rattle.rules.specs.declared.SetupRecord.{SetupRecord}
use Rattle.rules.specs.Setup.{bytes_of, user_record, every, listed, object_record, renumbered, written_object}
use Rattle.state.specs.State.{Users, user_in, Objects, object_in, objects_from, processes_in, blank, with}
use Rattle.state.specs.declared.Facility.{Facility}
use Rattle.state.specs.declared.Object.{Object}
use Rattle.state.specs.declared.Switches.{Switches}
use Rattle.labels.specs.Decisions.{on}

-- a record at a place of the buffer o, where it fits whole, and records one after the other
abbrev pub put_one : List ℕ → ℕ → SetupRecord → List ℕ
put_one o place r = cond (leb (place + 8) (length o)) (sets o place (bytes_of r)) o

unfoldable pub put_all : List ℕ → ℕ → List SetupRecord → List ℕ
put_all o place [] = o
put_all o place (r ∷ rs) = put_all (put_one o place r) (place + 8) rs

-- after records rs are stored from place p of the buffer o on: the buffer m, and the place q behind them
pub record Stored (o : List ℕ) (p : ℕ) (rs : List SetupRecord) (m : List ℕ) (q : ℕ) : Type 0 where
  pub buffer : m ≡ put_all o p rs
  pub place : q ≡ p + length rs * 8

-- a section is made of the items of the numbers below n that a test admits; the next number's
abbrev pub section_of : {A : Type 0} → (A → SetupRecord) → ℕ → (ℕ → Bool) → (ℕ → A) → List SetupRecord
section_of item n test value = map item (listed n test value)

abbrev pub live_in : Objects → ℕ → Bool
live_in x t = on (object_in x t).live

-- the sections of users and of objects
abbrev pub user_records : ℕ → Users → List SetupRecord
user_records n x = section_of user_record n every (user_in x)

abbrev pub object_records : ℕ → Objects → List SetupRecord
object_records n x = section_of object_record n (live_in x) (written_object x)

-- the record of an object, where it is live, with its parent by its new number among x
abbrev pub live_record : Objects → Object → List SetupRecord
live_record x o = map object_record (cond (on o.live) (renumbered x o ∷ []) [])

-- objects of which only the live ones are told: new numbers look at nothing else
abbrev pub lives_only : List ℕ → Objects
lives_only l = objects_from l [] [] [] [] [] [] []

-- the facility of these switches, users and objects, in which nothing has run yet: of a facility the writer looks at no more
abbrev pub facility_with : Switches → ℕ → Users → ℕ → Objects → Facility
facility_with s users us entered os =
    with (blank s) users us entered os (processes_in (blank s)) (blank s).opens (blank s).refusals
