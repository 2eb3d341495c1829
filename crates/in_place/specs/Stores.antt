-- Stores into the bytes of a facility: each changes one field.
use Rattle.std.specs.Prelude.{ℕ, ◌+◌, cond, List, ◌++◌, ◌≡◌, ltb, eqb, set}
use Rattle.in_place.specs.Layout.{field_of, the_padding, the_last_padding, facility_at, the_categories, the_datatypes, the_kinds, the_levels, the_lives}
use Rattle.in_place.specs.Layout.{the_clearances, the_roles, the_trusts, the_clearancesets, the_flags, the_parents}
use Rattle.in_place.specs.Layout.{the_runnings, the_owners, the_currents, the_readmarks, the_writemarks, the_automatics, the_moves}
use Rattle.in_place.specs.Layout.{the_sets, the_currentsets, the_readsets, the_writesets}
use Rattle.state.specs.declared.Process.{Process}
use Rattle.state.specs.declared.Facility.{Facility}
use Rattle.state.specs.declared.Object.{Object}
use Rattle.state.specs.declared.User.{User}

-- byte i of the n bytes from a place on becomes v; nothing where there is no such byte
unfoldable pub store_in : List ℕ → ℕ → ℕ → ℕ → ℕ → List ℕ
store_in s from n i v = cond (ltb i n) (set s (from + i) v) s

-- the fields with one store
abbrev pub store_field : (ℕ → List ℕ) → ℕ → ℕ → ℕ → ℕ → List ℕ
store_field g k i v j = cond (eqb j k) (set (g k) i v) (g j)

-- bytes that become those of a facility; both paddings stay
abbrev pub padding_in : (ℕ → List ℕ) → List ℕ
padding_in g = g the_padding ++ g the_last_padding

abbrev pub padding : List ℕ → List ℕ
padding s = padding_in (field_of s)

abbrev pub Becomes : List ℕ → List ℕ → Facility → Type 0
Becomes s m f = (facility_at m ≡ f) × (padding m ≡ padding s)

-- the stores of a user, of a process, and of an object
abbrev pub store_user : (ℕ → List ℕ) → ℕ → User → ℕ → List ℕ
store_user g i u =
    store_field (store_field (store_field (store_field g the_clearances i u.clearance.level) the_roles i u.role) the_trusts i u.trusted)
    the_clearancesets i u.clearance.set

abbrev pub store_process : (ℕ → List ℕ) → ℕ → Process → ℕ → List ℕ
store_process g p r =
    store_field (store_field (store_field (store_field (store_field (store_field (store_field (store_field (store_field (store_field g the_runnings p r.running)
    the_owners p r.owner) the_currents p r.current.level) the_readmarks p r.readmark.level) the_writemarks p r.writemark.level)
    the_automatics p r.automatic) the_moves p r.moves) the_currentsets p r.current.set) the_readsets p r.readmark.set)
    the_writesets p r.writemark.set

abbrev pub store_object : (ℕ → List ℕ) → ℕ → Object → ℕ → List ℕ
store_object g i o =
    store_field (store_field (store_field (store_field (store_field (store_field (store_field (store_field g the_lives i o.live) the_kinds i o.kind)
    the_levels i o.label.level) the_categories i o.category) the_datatypes i o.datatype) the_flags i o.flags) the_parents i o.parent)
    the_sets i o.label.set
