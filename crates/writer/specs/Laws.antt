-- Laws that other crates cite.
use Rattle.std.specs.Prelude.{ℕ, List, ◌≡◌, refl}
use Rattle.std.proofs.Common.{◌∙◌, ap}
use Rattle.answers.specs.Outcomes.{WriteOutcome}
use Rattle.rules.specs.Setup.{Writing, setup_records, setup_bytes, write_setup}
use Rattle.writer.specs.Writing.{facility_with}
use Rattle.state.specs.State.{blank, objects_in, switches_of, users_in}
use Rattle.state.specs.declared.Facility.{Facility}

-- of a facility a set-up is made of its switches, users and objects alone
pub parts_written : (f : Facility) (o : List ℕ) → write_setup (facility_with (switches_of f) f.users (users_in f) f.entered (objects_in f)) o ≡ write_setup f o
unfolding write_setup setup_bytes setup_records blank
parts_written f o = refl

-- so what the writer of parts gives of a facility's parts is what the writer gives
pub lent_written : (f : Facility) (o : List ℕ) (w : WriteOutcome) (l : List ℕ)
    → w ≡ (write_setup (facility_with (switches_of f) f.users (users_in f) f.entered (objects_in f)) o).outcome
    → l ≡ (write_setup (facility_with (switches_of f) f.users (users_in f) f.entered (objects_in f)) o).buffer
    → (w ≡ (write_setup f o).outcome) × (l ≡ (write_setup f o).buffer)
lent_written f o w l a b = (a ∙ ap (λ (x : Writing). x.outcome) (parts_written f o), b ∙ ap (λ (x : Writing). x.buffer) (parts_written f o))
