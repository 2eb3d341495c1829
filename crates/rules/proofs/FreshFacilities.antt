-- The fresh facility, by the bytes of the set-up: proved.
use Rattle.std.specs.Prelude.{ℕ, ◌≡◌, refl, ◌≢◌, true, false, List, [], ◌∷◌, ◌++◌, map, eqb}
use Rattle.std.proofs.Common.{sym, ◌∙◌, ap, arith, eq-eqb, ne_eqb}
use Rattle.rules.specs.Types.{Facility}
use Rattle.labels.proofs.Laws.Decisions.{clash, by_test}
use Rattle.state.specs.State.{object_of, live, switches_of, all_off, blank}
use Rattle.rules.specs.Kinds.{SetupRecord, record_number}
use Rattle.rules.specs.Setup.{sized, switches_entered, user_entered, object_entered, enter_record, enter_all, is_accepted, records_in, read_setup, fresh}
use Rattle.rules.specs.Setup.{accepted_setup, switches_record, user_record, object_record, every, users_of, live_objects, written_objects, setup_records}
use Rattle.rules.specs.Promises.{of_kind, objects_entered, FreshFacilities}
use Rattle.std.proofs.lemmas.List.{append-nil}
use Rattle.rules.proofs.Listed.{listed_same}
use Rattle.rules.proofs.Fresh.{Fresh, fresh_setup}
use Rattle.rules.proofs.Sections.{objects_fit}
use Rattle.rules.proofs.RoundTrips.{as_written, users_told, objects_told, fresh_written}

-- the records of a kind among those that are made of a list
all_of_kind : {A : Type 0} (k : ℕ) (made : A → SetupRecord) (xs : List A) (rest : List SetupRecord) → ((x : A) → (made x).kind ≡ k)
    → of_kind k (map made xs ++ rest) ≡ map made xs ++ of_kind k rest
unfolding of_kind
all_of_kind k made [] rest h = refl
all_of_kind k made (x ∷ xs) rest h =
    rw (eq-eqb (made x).kind k (h x)) (ap (λ (l : List SetupRecord). made x ∷ l) (all_of_kind k made xs rest h))

none_of_kind : {A : Type 0} (k : ℕ) (made : A → SetupRecord) (xs : List A) (rest : List SetupRecord) → ((x : A) → (made x).kind ≢ k)
    → of_kind k (map made xs ++ rest) ≡ of_kind k rest
unfolding of_kind
none_of_kind k made [] rest h = refl
none_of_kind k made (x ∷ xs) rest h = rw (ne_eqb (made x).kind k (h x)) (none_of_kind k made xs rest h)

-- the records that are written out, by their kind
one_switches : (f : Facility) → of_kind 3 (setup_records f) ≡ switches_record (switches_of f) ∷ []
unfolding setup_records of_kind
one_switches f =
    ap (λ (l : List SetupRecord). switches_record (switches_of f) ∷ l)
    (none_of_kind 3 user_record (users_of f) _ (λ u. omega arith) ∙ none_of_kind 3 object_record (written_objects f) [] (λ o. omega arith))

users_alone : (f : Facility) → of_kind 1 (setup_records f) ≡ map user_record (users_of f) ++ []
unfolding setup_records of_kind
users_alone f =
    all_of_kind 1 user_record (users_of f) _ (λ u. refl)
    ∙ ap (λ (l : List SetupRecord). map user_record (users_of f) ++ l) (none_of_kind 1 object_record (written_objects f) [] (λ o. omega arith))

objects_alone : (f : Facility) → of_kind 2 (setup_records f) ≡ map object_record (written_objects f) ++ []
unfolding setup_records of_kind
objects_alone f =
    none_of_kind 2 user_record (users_of f) _ (λ u. omega arith) ∙ all_of_kind 2 object_record (written_objects f) [] (λ o. refl)

switches' : (s : List ℕ) → accepted_setup s ≡ true → switches_of (fresh s) ∷ [] ≡ map switches_entered (of_kind 3 (records_in s))
switches' s h =
    ap (map switches_entered) (sym (one_switches (fresh s)) ∙ ap (of_kind 3) (as_written s h).1)

users' : (s : List ℕ) → accepted_setup s ≡ true → users_of (fresh s) ≡ map user_entered (of_kind 1 (records_in s))
users' s h =
    sym (users_told (users_of (fresh s)))
    ∙ ap (map user_entered) (sym (append-nil (map user_record (users_of (fresh s)))) ∙ sym (users_alone (fresh s)) ∙ ap (of_kind 1) (as_written s h).1)

-- all objects of a fresh facility are live
all_live : (f : Facility) → Fresh f → objects_entered f ≡ live_objects f
all_live f F = listed_same f.entered (live f) every (object_of f) (object_of f) (λ t b. sym (F.whole t b)) (λ t b. refl)

objects' : (s : List ℕ) → accepted_setup s ≡ true → objects_entered (fresh s) ≡ map object_entered (of_kind 2 (records_in s))
objects' s h =
    let F = fresh_setup s in
    all_live (fresh s) F ∙ sym (fresh_written (fresh s) F)
    ∙ sym (objects_told (written_objects (fresh s)) (objects_fit (fresh s) F.regular))
    ∙ ap (map object_entered)
    (sym (append-nil (map object_record (written_objects (fresh s)))) ∙ sym (objects_alone (fresh s)) ∙ ap (of_kind 2) (as_written s h).1)

refused_all : (past : List SetupRecord) (f : Facility) (rs : List SetupRecord) → is_accepted (enter_all past f rs).outcome ≡ false
    → (enter_all past f rs).facility ≡ blank all_off
unfolding enter_all
refused_all past f [] h = clash refl h
refused_all past f (r ∷ rs) h =
    by_test (eqb (record_number past r) 0) (λ e. rw e (refused_all (r ∷ past) (enter_record f r) rs (rw e at h))) (λ e. rw e)

refused' : (s : List ℕ) → is_accepted (read_setup s).outcome ≡ false → (read_setup s).facility ≡ blank all_off
unfolding read_setup
refused' s h = by_test (sized s) (λ e. rw e (refused_all [] (blank all_off) (records_in s) (rw e at h))) (λ e. rw e)

pub fresh_facilities : FreshFacilities
fresh_facilities =
    record {
      switches = switches';
      users = users';
      objects = objects';
      refused = refused';
      stopped = λ s p. (fresh_setup s).stopped p;
      closed = λ s p t. (fresh_setup s).closed p t;
      uncounted = λ s u. (fresh_setup s).refusals u;
    }
