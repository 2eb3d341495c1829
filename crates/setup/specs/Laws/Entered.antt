-- What a record enters, by its kind.
use Rattle.std.specs.Prelude.{◌≡◌, ◌≢◌}
use borrow.Author.Tests.{eq-eqb, ne_eqb}
use Rattle.rules.specs.declared.SetupRecord.{SetupRecord}
use Rattle.rules.specs.Kinds.{switches_record_kind, user_record_kind, object_record_kind}
use Rattle.rules.specs.Setup.{enter_record, switches_entered, user_entered, object_entered}
use Rattle.state.specs.declared.Facility.{Facility}
use Rattle.state.specs.State.{add_object, add_user, blank}

module _ (f : Facility) (r : SetupRecord) where
  pub switches_entered_law : r.kind ≡ switches_record_kind → blank (switches_entered r) ≡ enter_record f r
  unfolding enter_record
  switches_entered_law h = rw (eq-eqb r.kind switches_record_kind h)

  module _ (s : r.kind ≢ switches_record_kind) where
    pub user_entered_law : r.kind ≡ user_record_kind → add_user f (user_entered r) ≡ enter_record f r
    unfolding enter_record
    user_entered_law h = rw (ne_eqb r.kind switches_record_kind s, eq-eqb r.kind user_record_kind h)

    module _ (u : r.kind ≢ user_record_kind) where
      pub object_entered_law : r.kind ≡ object_record_kind → add_object f (object_entered r) ≡ enter_record f r
      unfolding enter_record
      object_entered_law h = rw (ne_eqb r.kind switches_record_kind s, ne_eqb r.kind user_record_kind u, eq-eqb r.kind object_record_kind h)

      pub none_entered : r.kind ≢ object_record_kind → f ≡ enter_record f r
      unfolding enter_record
      none_entered h = rw (ne_eqb r.kind switches_record_kind s, ne_eqb r.kind user_record_kind u, ne_eqb r.kind object_record_kind h)
