-- "Set-up records": reading a set-up, and writing one out.
pub use Rattle.rules.specs.Kinds.{SetupRecord, record_number}
use Rattle.rules.specs.Kinds.{switches_record_kind, user_record_kind, object_record_kind}
pub use Rattle.rules.specs.declared.Reading.{Reading}
use Rattle.answers.specs.Outcomes.{no_room, setup_accepted, setup_refused, written}
use Rattle.std.specs.Prelude.{Err, Ok}
use Rattle.std.specs.Prelude.{ℕ, zero, suc, ◌+◌, ◌-◌, ◌/◌, ◌%◌, Bool, true, false, cond, List, [], ◌∷◌, ◌++◌, map, leb, ltb, eqb, length, drop}
use Rattle.rules.specs.Types.{SetupOutcome, WriteOutcome, Switches, User, Object, Facility}
use Rattle.labels.specs.Decisions.{◌and◌, at, on}
use Rattle.state.specs.State.{Objects, objects_in, object_in, object_of, user_of, live, switches_of, all_off, add_user, add_object, blank}
use Rattle.labels.specs.Labels.{label}

-- A record is 8 bytes, no header. Byte 0 is the kind (Kinds). The records of the bytes s:
abbrev pub first_record : List ℕ → SetupRecord
first_record s =
    record {
      kind = at s 0;
      one = at s 1;
      two = at s 2;
      three = at s 3;
      four = at s 4;
      five = at s 5;
      six = at s 6;
      seven = at s 7;
    }

unfoldable pub records_of : ℕ → List ℕ → List SetupRecord
records_of zero s = []
records_of (suc n) s = first_record s ∷ records_of n (drop 8 s)

-- the bytes of records
abbrev pub bytes_of : SetupRecord → List ℕ
bytes_of r =
    r.kind ∷ r.one ∷ r.two ∷ r.three ∷ r.four ∷ r.five ∷ r.six ∷ r.seven ∷ []

unfoldable pub bytes_of_all : List SetupRecord → List ℕ
bytes_of_all [] = []
bytes_of_all (r ∷ rs) = bytes_of r ++ bytes_of_all rs

-- a set-up of one switches record, 16 users and 128 objects
abbrev pub most_bytes : ℕ
most_bytes = 1160

-- 14: is the length a positive multiple of 8, at most 1,160?
unfoldable pub allowed_length : ℕ → Bool
allowed_length n = eqb (n % 8) 0 and ltb 0 n and leb n most_bytes

abbrev pub sized : List ℕ → Bool
sized s = allowed_length (length s)

-- the switches, the user and the object that a record enters
abbrev pub switches_entered : SetupRecord → Switches
switches_entered r = record { mac = r.one; fc = r.two; sim = r.three; ff = r.four }

abbrev pub user_entered : SetupRecord → User
user_entered r = record { clearance = label r.one r.four; role = r.two; trusted = r.three }

abbrev pub object_entered : SetupRecord → Object
object_entered r =
    record {
      live = 1;
      kind = r.one;
      label = label r.two r.seven;
      category = r.three;
      datatype = r.four;
      flags = r.five;
      parent = r.six;
    }

-- what a record of each kind enters, a row for each
pub record EnterRow : Type 0 where
  pub byte : ℕ
  pub enter : Facility → SetupRecord → Facility

abbrev pub enter_rows : List EnterRow
enter_rows =
    record { byte = switches_record_kind; enter = λ f r. blank (switches_entered r) }
    ∷ record { byte = user_record_kind; enter = λ f r. add_user f (user_entered r) }
    ∷ record { byte = object_record_kind; enter = λ f r. add_object f (object_entered r) } ∷ []

abbrev pub enter_among : List EnterRow → Facility → SetupRecord → Facility
enter_among [] f r = f
enter_among (x ∷ xs) f r = cond (eqb r.kind x.byte) (x.enter f r) (enter_among xs f r)

-- the facility with one record more; one of no kind enters nothing
unfoldable pub enter_record : Facility → SetupRecord → Facility
enter_record f r = enter_among enter_rows f r

-- a refused set-up gives the fresh facility of one switches record with all off
abbrev pub refused_setup : ℕ → ℕ → Reading
refused_setup n i = record { outcome = setup_refused n i; facility = blank all_off }

-- the records after those that are past, each asked in turn; the index of a record is how many are past
unfoldable pub enter_all : List SetupRecord → Facility → List SetupRecord → Reading
enter_all past f [] = record { outcome = setup_accepted; facility = f }
enter_all past f (r ∷ rs) =
    cond (eqb (record_number past r) 0)
    (enter_all (r ∷ past) (enter_record f r) rs)
    (refused_setup (record_number past r) (length past))

-- the records of a set-up of whole records
abbrev pub records_in : List ℕ → List SetupRecord
records_in s = records_of (length s / 8) s

unfoldable pub read_setup : List ℕ → Reading
read_setup s =
    cond (sized s) (enter_all [] (blank all_off) (records_in s)) (refused_setup 14 0)

-- the fresh facility of a set-up
abbrev pub fresh : List ℕ → Facility
fresh s = (read_setup s).facility

abbrev pub is_accepted : SetupOutcome → Bool
is_accepted (Ok u) = true
is_accepted (Err r) = false

abbrev pub accepted_setup : List ℕ → Bool
accepted_setup s = is_accepted (read_setup s).outcome

-- Writing out: exactly switches, users, live objects in order, with their parents by their new numbers.
abbrev pub switches_record : Switches → SetupRecord
switches_record s =
    record { kind = switches_record_kind; one = s.mac; two = s.fc; three = s.sim; four = s.ff; five = 0; six = 0; seven = 0 }

abbrev pub user_record : User → SetupRecord
user_record u =
    record {
      kind = user_record_kind;
      one = u.clearance.level;
      two = u.role;
      three = u.trusted;
      four = u.clearance.set;
      five = 0;
      six = 0;
      seven = 0;
    }

abbrev pub object_record : Object → SetupRecord
object_record o =
    record {
      kind = object_record_kind;
      one = o.kind;
      two = o.label.level;
      three = o.category;
      four = o.datatype;
      five = o.flags;
      six = o.parent;
      seven = o.label.set;
    }

-- the items of the numbers below n that a test admits, in rising order
unfoldable pub listed : {A : Type 0} → ℕ → (ℕ → Bool) → (ℕ → A) → List A
listed zero test item = []
listed (suc n) test item = listed n test item ++ cond (test n) (item n ∷ []) []

abbrev pub every : ℕ → Bool
every n = true

abbrev pub users_of : Facility → List User
users_of f = listed f.users every (user_of f)

abbrev pub live_objects : Facility → List Object
live_objects f = listed f.entered (live f) (object_of f)

-- the new number of object t: how many live ones are before it
unfoldable pub new_number : Objects → ℕ → ℕ
new_number x zero = 0
new_number x (suc t) = cond (on (at x.lives t)) (new_number x t + 1) (new_number x t)

-- a parent, as its number plus 1, by its new number; a deleted one counts as none
unfoldable pub new_parent : Objects → ℕ → ℕ
new_parent x n = cond (ltb 0 n and on (at x.lives (n - 1))) (new_number x (n - 1) + 1) 0

abbrev pub with_parent : Object → ℕ → Object
with_parent o n =
    record {
      live = o.live;
      kind = o.kind;
      label = o.label;
      category = o.category;
      datatype = o.datatype;
      flags = o.flags;
      parent = n;
    }

abbrev pub renumbered : Objects → Object → Object
renumbered x o = with_parent o (new_parent x o.parent)

abbrev pub written_object : Objects → ℕ → Object
written_object x t = renumbered x (object_in x t)

abbrev pub written_objects : Facility → List Object
written_objects f = listed f.entered (live f) (written_object (objects_in f))

-- the sections, each the records of one kind, in the order of the table
abbrev pub users_section : Facility → List SetupRecord
users_section f = map user_record (users_of f)

abbrev pub objects_section : Facility → List SetupRecord
objects_section f = map object_record (written_objects f)

abbrev pub sections : List (Facility → List SetupRecord)
sections = users_section ∷ objects_section ∷ []

-- sections one after the other
abbrev pub together : List (Facility → List SetupRecord) → Facility → List SetupRecord
together [] f = []
together (s ∷ ss) f = s f ++ together ss f

unfoldable pub setup_records : Facility → List SetupRecord
setup_records f = switches_record (switches_of f) ∷ together sections f

unfoldable pub setup_bytes : Facility → List ℕ
setup_bytes f = bytes_of_all (setup_records f)

-- 18: does the lent buffer hold it all? No: length 0, buffer untouched. Else later bytes are untouched
pub record Writing : Type 0 where
  pub outcome : WriteOutcome
  pub buffer : List ℕ

unfoldable pub write_setup : Facility → List ℕ → Writing
write_setup f lent =
    cond (leb (length (setup_bytes f)) (length lent))
    (record { outcome = written (length (setup_bytes f)); buffer = setup_bytes f ++ drop (length (setup_bytes f)) lent })
    (record { outcome = no_room; buffer = lent })
