-- The bytes become those of `add_object f o`.
use mathlib.Core.Path.{refl, ◌∙◌}
use borrow.Author.Rules.{rules}
use Rattle.in_place.specs.Layout.{facility_at}
use Rattle.in_place.proofs.Changed.{added_is, full_is}
use Rattle.in_place.proofs.Stored.{padding_entered, padding_fields}
use Rattle.in_place.proofs.bytes.ArrayU8SIZEFacilityStore.add_object.Goals as goal

pub returns-then-n-lt-OBJECTS : goal.returns-then-n-lt-OBJECTS
unfolding facility_at
returns-then-n-lt-OBJECTS c =
    let a = c.args in (
      added_is a.self.now _ _ a.o _ c.told-self c.entered-n.ensures c.if-n-lt-OBJECTS.true c.put_object.ensures c.put.ensures,
      padding_entered _ _ _ _ c.put.ensures ∙ padding_fields a.self.now _ _ c.put_object.ensures refl,
    )

pub returns-else-n-lt-OBJECTS : goal.returns-else-n-lt-OBJECTS
unfolding facility_at
returns-else-n-lt-OBJECTS c =
    let a = c.args in (full_is a.self.now a.o _ c.entered-n.ensures (search (rules, c.if-n-lt-OBJECTS.false)), refl)
