-- The bytes of a facility, as `include/hvozdalka.h` lays them out: where each field stands, and the facility that they are.
use Rattle.std.specs.Prelude.{ℕ, zero, suc, ◌+◌, ◌*◌, List, [], ◌∷◌, take, drop}
use Rattle.labels.specs.Decisions.{at}
use Rattle.opens.specs.Opens.{build, most_processes, most_objects, most_opens}
use Rattle.state.specs.State.{most_users}
use Rattle.state.specs.declared.Facility.{Facility}

-- the bytes of a counter
abbrev pub counter_size : ℕ
counter_size = 4

-- the sizes of the fields in order; the two of 3 bytes are padding
abbrev pub sizes : List ℕ
sizes =
    1 ∷ 1 ∷ 1 ∷ 1 ∷ most_users ∷ most_users ∷ most_users ∷ 1 ∷ most_objects ∷ most_objects ∷ most_objects ∷ most_objects ∷ most_objects
    ∷ most_processes ∷ most_processes ∷ most_processes ∷ most_processes ∷ most_processes ∷ most_processes ∷ most_opens ∷ 3 ∷ counter_size * most_users
    ∷ 1 ∷ most_objects ∷ most_objects ∷ most_processes ∷ most_users ∷ most_objects ∷ most_processes ∷ most_processes ∷ most_processes ∷ 3 ∷ []

abbrev pub size : ℕ → ℕ
size k = at sizes k

abbrev pub offset : ℕ → ℕ
offset zero = 0
offset (suc k) = offset k + size k

-- the fields by name
abbrev pub the_mac : ℕ
the_mac = 0

abbrev pub the_fc : ℕ
the_fc = suc the_mac

abbrev pub the_sim : ℕ
the_sim = suc the_fc

abbrev pub the_users : ℕ
the_users = suc the_sim

abbrev pub the_clearances : ℕ
the_clearances = suc the_users

abbrev pub the_roles : ℕ
the_roles = suc the_clearances

abbrev pub the_trusts : ℕ
the_trusts = suc the_roles

abbrev pub the_entered : ℕ
the_entered = suc the_trusts

abbrev pub the_lives : ℕ
the_lives = suc the_entered

abbrev pub the_kinds : ℕ
the_kinds = suc the_lives

abbrev pub the_levels : ℕ
the_levels = suc the_kinds

abbrev pub the_categories : ℕ
the_categories = suc the_levels

abbrev pub the_datatypes : ℕ
the_datatypes = suc the_categories

abbrev pub the_runnings : ℕ
the_runnings = suc the_datatypes

abbrev pub the_owners : ℕ
the_owners = suc the_runnings

abbrev pub the_currents : ℕ
the_currents = suc the_owners

abbrev pub the_readmarks : ℕ
the_readmarks = suc the_currents

abbrev pub the_writemarks : ℕ
the_writemarks = suc the_readmarks

abbrev pub the_automatics : ℕ
the_automatics = suc the_writemarks

abbrev pub the_opens : ℕ
the_opens = suc the_automatics

abbrev pub the_padding : ℕ
the_padding = suc the_opens

abbrev pub the_refusals : ℕ
the_refusals = suc the_padding

abbrev pub the_ff : ℕ
the_ff = suc the_refusals

abbrev pub the_flags : ℕ
the_flags = suc the_ff

abbrev pub the_parents : ℕ
the_parents = suc the_flags

abbrev pub the_moves : ℕ
the_moves = suc the_parents

abbrev pub the_clearancesets : ℕ
the_clearancesets = suc the_moves

abbrev pub the_sets : ℕ
the_sets = suc the_clearancesets

abbrev pub the_currentsets : ℕ
the_currentsets = suc the_sets

abbrev pub the_readsets : ℕ
the_readsets = suc the_currentsets

abbrev pub the_writesets : ℕ
the_writesets = suc the_readsets

abbrev pub the_last_padding : ℕ
the_last_padding = suc the_writesets

-- the last of them, and so the bytes of a facility
abbrev pub last_field : ℕ
last_field = the_last_padding

abbrev pub whole_size : ℕ
whole_size = offset (suc last_field)

-- n bytes from a place on
abbrev pub part : List ℕ → ℕ → ℕ → List ℕ
part s from n = take n (drop from s)

-- field k of the bytes
abbrev pub field_of : List ℕ → ℕ → List ℕ
field_of s k = part s (offset k) (size k)

-- the number of the four bytes from place 4 u on, low byte first; and those of all users
abbrev pub word_at : List ℕ → ℕ → ℕ
word_at l u = at l (4 * u) + 256 * at l (4 * u + 1) + 65536 * at l (4 * u + 2) + 16777216 * at l (4 * u + 3)

abbrev pub words : List ℕ → List ℕ
words l = build most_users (word_at l)

-- the facility of fields
abbrev pub facility_of : (ℕ → List ℕ) → Facility
facility_of g =
    record {
      mac = at (g the_mac) 0;
      fc = at (g the_fc) 0;
      sim = at (g the_sim) 0;
      users = at (g the_users) 0;
      clearances = g the_clearances;
      roles = g the_roles;
      trusts = g the_trusts;
      entered = at (g the_entered) 0;
      lives = g the_lives;
      kinds = g the_kinds;
      levels = g the_levels;
      categories = g the_categories;
      datatypes = g the_datatypes;
      runnings = g the_runnings;
      owners = g the_owners;
      currents = g the_currents;
      readmarks = g the_readmarks;
      writemarks = g the_writemarks;
      automatics = g the_automatics;
      opens = g the_opens;
      refusals = words (g the_refusals);
      ff = at (g the_ff) 0;
      flags = g the_flags;
      parents = g the_parents;
      moves = g the_moves;
      clearancesets = g the_clearancesets;
      sets = g the_sets;
      currentsets = g the_currentsets;
      readsets = g the_readsets;
      writesets = g the_writesets;
    }

-- the facility of bytes
unfoldable pub facility_at : List ℕ → Facility
facility_at s = facility_of (field_of s)
