-- "Set-up records": the kinds of records as a table, and the questions 15 to 17 and 19 of a record, by the records before it.
pub use Rattle.rules.specs.declared.SetupRecord.{SetupRecord}
pub use Rattle.rules.specs.declared.Byte.{Byte}
pub use Rattle.rules.specs.declared.Byte.TheVariants.{Zero, Upto, OrUnset, Bits}
pub use Rattle.rules.specs.declared.Also.{Also}
pub use Rattle.rules.specs.declared.Also.TheVariants.{Nothing, SetNeedsLevel}
pub use Rattle.rules.specs.declared.Kind.{Kind}
use Rattle.std.specs.Prelude.{ℕ, ◌+◌, ◌-◌, Bool, true, false, not, cond, List, [], ◌∷◌, leb, ltb, eqb}
use Rattle.std.specs.Int.Bits.{bit_and}
use Rattle.labels.specs.Decisions.{◌and◌, ◌or◌, ask, asked}
use Rattle.labels.specs.Labels.{unset, top_level, all_categories}
use Rattle.state.specs.State.{most_users}
use Rattle.opens.specs.Opens.{most_objects}
use Rattle.rules.specs.FileFlags.{all_flags}
use Rattle.rules.specs.Requests.{directory_kind, last_kind}

-- "3 switches: bytes 1 to 3 MAC, FC, SIM, each 0 or 1", one record; "a fourth switch is byte 4"
abbrev pub switches_kind : Kind
switches_kind =
    record {
      place = 1;
      most = 1;
      one = Upto 1;
      two = Upto 1;
      three = Upto 1;
      four = Upto 1;
      five = Zero;
      six = Zero;
      seven = Zero;
      also = Nothing;
    }

-- "1 user: byte 1 clearance 0..15, byte 2 role 0, 1 or 2, byte 3 trusted 0 or 1"; "byte 4 is the clearance's set"
abbrev pub users_kind : Kind
users_kind =
    record {
      place = 2;
      most = most_users;
      one = Upto top_level;
      two = Upto 2;
      three = Upto 1;
      four = Upto all_categories;
      five = Zero;
      six = Zero;
      seven = Zero;
      also = Nothing;
    }

-- "2 object: byte 1 kind 0..3, byte 2 level 0..15 or 255 unset, byte 3 category 0, 1, 2 or 255 unset, byte 4 data type 0 or 1"; "byte 5 has
-- flags, other bits must be 0; byte 6 is the parent directory's number plus 1, or 0 for none", which 19 asks; "byte 7 the object's set, which must
-- be 0 where the level is unset"
abbrev pub objects_kind : Kind
objects_kind =
    record {
      place = 3;
      most = most_objects;
      one = Upto last_kind;
      two = OrUnset top_level;
      three = OrUnset 2;
      four = Upto 1;
      five = Bits all_flags;
      six = Upto 255;
      seven = Upto all_categories;
      also = SetNeedsLevel;
    }

-- any other byte 0 is of no kind: it has no place
abbrev pub no_kind : Kind
no_kind =
    record {
      place = 0;
      most = 0;
      one = Zero;
      two = Zero;
      three = Zero;
      four = Zero;
      five = Zero;
      six = Zero;
      seven = Zero;
      also = Nothing;
    }

-- byte 0 of a record
abbrev pub switches_record_kind : ℕ
switches_record_kind = 3

abbrev pub user_record_kind : ℕ
user_record_kind = 1

abbrev pub object_record_kind : ℕ
object_record_kind = 2

-- the table, by byte 0: a row for each kind
pub record KindRow : Type 0 where
  pub byte : ℕ
  pub rule : Kind

abbrev pub kind_rows : List KindRow
kind_rows =
    record { byte = switches_record_kind; rule = switches_kind }
    ∷ record { byte = user_record_kind; rule = users_kind }
    ∷ record { byte = object_record_kind; rule = objects_kind } ∷ []

abbrev pub kind_among : ℕ → List KindRow → Kind
kind_among k [] = no_kind
kind_among k (x ∷ xs) = cond (eqb k x.byte) x.rule (kind_among k xs)

unfoldable pub kind_of : ℕ → Kind
kind_of k = kind_among k kind_rows

abbrev pub place_of : SetupRecord → ℕ
place_of r = (kind_of r.kind).place

-- The records before a record are listed with the last one first. How many of kind k are among them:
unfoldable pub count_of : ℕ → List SetupRecord → ℕ
count_of k [] = 0
count_of k (q ∷ past) = cond (eqb q.kind k) (count_of k past + 1) (count_of k past)

-- 15: does the kind fit the place (3 first and only there, no 1 after a 2: later ones in the order of the table)?
unfoldable pub fits : List SetupRecord → SetupRecord → Bool
fits [] r = eqb (place_of r) 1
fits (q ∷ past) r = leb 2 (place_of r) and leb (place_of q) (place_of r)

-- 16: are fewer than the most of its kind entered before it?
unfoldable pub room : List SetupRecord → SetupRecord → Bool
room past r = ltb (count_of r.kind past) (kind_of r.kind).most

-- 17: is every byte allowed? Each by itself, then all together; no byte of these kinds is asked by the records before
abbrev pub byte_allowed : Byte → ℕ → Bool
byte_allowed Zero b = eqb b 0
byte_allowed (Upto n) b = leb b n
byte_allowed (OrUnset n) b = leb b n or eqb b unset
byte_allowed (Bits n) b = eqb (bit_and b n) b

abbrev pub also_allowed : Also → SetupRecord → Bool
also_allowed Nothing r = true
also_allowed SetNeedsLevel r = not (eqb r.two unset) or eqb r.seven 0

unfoldable pub allowed_by : Kind → SetupRecord → Bool
allowed_by d r =
    byte_allowed d.one r.one and byte_allowed d.two r.two and byte_allowed d.three r.three and byte_allowed d.four r.four
    and byte_allowed d.five r.five and byte_allowed d.six r.six and byte_allowed d.seven r.seven and also_allowed d.also r

unfoldable pub allowed : List SetupRecord → SetupRecord → Bool
allowed past r = allowed_by (kind_of r.kind) r

-- whether object n, the record of kind 2 with n of its kind before it, is among them and is a directory
unfoldable pub directory_among : ℕ → List SetupRecord → Bool
directory_among n [] = false
directory_among n (q ∷ past) =
    cond (eqb q.kind object_record_kind and eqb (count_of object_record_kind past) n) (eqb q.one directory_kind) (directory_among n past)

-- 19: is the parent of an object none, or the number plus 1 of an earlier directory?
unfoldable pub parent_fits : List SetupRecord → SetupRecord → Bool
parent_fits past r = asked (eqb r.kind object_record_kind) (eqb r.six 0 or directory_among (r.six - 1) past)

-- the questions of one record, in order
unfoldable pub record_number : List SetupRecord → SetupRecord → ℕ
record_number past r =
    ask (fits past r) 15 (ask (room past r) 16 (ask (allowed past r) 17 (ask (parent_fits past r) 19 0)))
