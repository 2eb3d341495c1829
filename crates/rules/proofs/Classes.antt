-- What the lists of classes tell of single requests.
use Rattle.std.specs.Prelude.{ℕ, ◌≡◌, refl, ◌≢◌, Bool, true, not, leb, eqb}
use Rattle.std.proofs.Common.{arith, eqb-true, ne_eqb}
use Rattle.labels.specs.Decisions.{◌or◌}
use Rattle.labels.proofs.Laws.Decisions.{clash, by_test, by_eq}
use Rattle.opens.specs.Opens.{reading, writing}
use Rattle.rules.specs.Requests.{Create, Class, Absent, Reads, Writes, Both, NoCondition, Add, last_request, action_of, files, directories, channels}
use Rattle.rules.specs.Requests.{control_data, list_of, class_among, class_of, is_absent, observes, alters, open_change}

-- what holds of a request's class in each column, and where there is none, holds for every kind
pub row : (P : Class → Bool) (r : ℕ) → P Absent ≡ true → P (class_of r 0) ≡ true → P (class_of r 1) ≡ true → P (class_of r 2) ≡ true → P (class_of r 3) ≡ true
    → (k : ℕ) → P (class_of r k) ≡ true
unfolding class_of list_of class_among
row P r absent h0 h1 h2 h3 k =
    by_eq k 0 (λ e. rw e h0) (λ n0.
    by_eq k 1 (λ e. rw e h1) (λ n1.
    by_eq k 2 (λ e. rw e h2) (λ n2.
    by_eq k 3 (λ e. rw e h3) (λ n3. past n0 n1 n2 n3))))
  where
    past : k ≢ 0 → k ≢ 1 → k ≢ 2 → k ≢ 3 → P (class_of r k) ≡ true
    past n0 n1 n2 n3 = rw (ne_eqb k 0 n0, ne_eqb k 1 n1, ne_eqb k 2 n2, ne_eqb k 3 n3) absent

-- a class that is there has the property
pub there : (P : Class → Bool) (x : Class) → (is_absent x or P x) ≡ true → not (is_absent x) ≡ true → P x ≡ true
unfolding ◌or◌
there P Absent h n = clash n refl
there P Reads h n = h
there P Writes h n = h
there P Both h n = h
there P NoCondition h n = h

pub class_create : (k : ℕ) → not (is_absent (class_of 4 k)) ≡ true → alters (class_of 4 k) ≡ true
unfolding class_of files directories channels control_data list_of class_among ◌or◌
class_create k = there alters (class_of 4 k) (row (λ x. is_absent x or alters x) 4 refl refl refl refl refl k)

-- a directory alone has create
pub create_directory : (k : ℕ) → not (is_absent (class_of 4 k)) ≡ true → k ≡ 1
unfolding class_of files directories channels control_data list_of class_among
create_directory k h =
    by_eq k 1 (λ e. e) (λ n1.
    by_eq k 0 (λ e. clash (rw e at h) refl) (λ n0.
    by_eq k 2 (λ e. clash (rw e at h) refl) (λ n2.
    by_eq k 3 (λ e. clash (rw e at h) refl) (λ n3. clash (rw (ne_eqb k 0 n0, ne_eqb k 1 n1, ne_eqb k 2 n2, ne_eqb k 3 n3) at h) refl))))

pub request_create : (r : ℕ) → action_of r ≡ Create → r ≡ 4
unfolding action_of
request_create r e =
    by_eq r 4 (λ h. h) (λ n.
    let h4 = ne_eqb r 4 n in
    by_test (eqb r 2) (λ h. cc) (λ h2.
    by_test (eqb r 16) (λ h. cc) (λ h16.
    by_test (eqb r 17) (λ h. cc) (λ h17.
    by_test (eqb r 18) (λ h. cc) (λ h18.
    by_test (eqb r 21) (λ h. cc) (λ h21.
    by_test (leb r last_request) (λ h. cc) (λ hl. cc)))))))

-- the requests that open, and what they add
pub add_cases {ℓ} : (r m : ℕ) {A : Type ℓ} → open_change r ≡ Add m → (r ≡ 13 → m ≡ 1 → A) → (r ≡ 14 → m ≡ 3 → A) → (r ≡ 20 → m ≡ 2 → A) → A
unfolding open_change
add_cases r m {A} e a b c =
    by_test (eqb r 13) (λ h. a (eqb-true r 13 h) (cc)) (λ h13.
    by_test (eqb r 14) (λ h. b (eqb-true r 14 h) (cc)) (λ h14.
    by_test (eqb r 20) (λ h. c (eqb-true r 20 h) (cc)) (λ h20.
    by_test (eqb r 3) (λ h. no_change (cc)) (λ h3.
    by_test (eqb r 5) (λ h. no_change (cc)) (λ h5. no_change (cc))))))
  where
    no_change : ◌≡◌ {A = ℕ} 0 1 → A
    no_change z = absurd (omega arith)

-- the modes that a request adds are those of its class
pub add_reads : (r k m : ℕ) → open_change r ≡ Add m → not (is_absent (class_of r k)) ≡ true → reading m ≡ true → observes (class_of r k) ≡ true
unfolding class_of files directories channels control_data list_of class_among ◌or◌ reading
add_reads r k m e n h =
    add_cases r m e
    (λ q z. rw q (there observes (class_of 13 k) (row (λ x. is_absent x or observes x) 13 refl refl refl refl refl k) (rw q at n)))
    (λ q z. rw q (there observes (class_of 14 k) (row (λ x. is_absent x or observes x) 14 refl refl refl refl refl k) (rw q at n)))
    (λ q z. clash (rw z at h) refl)

pub add_writes : (r k m : ℕ) → open_change r ≡ Add m → not (is_absent (class_of r k)) ≡ true → writing m ≡ true → alters (class_of r k) ≡ true
unfolding class_of files directories channels control_data list_of class_among ◌or◌ writing
add_writes r k m e n h =
    add_cases r m e
    (λ q z. clash (rw z at h) refl)
    (λ q z. rw q (there alters (class_of 14 k) (row (λ x. is_absent x or alters x) 14 refl refl refl refl refl k) (rw q at n)))
    (λ q z. rw q (there alters (class_of 20 k) (row (λ x. is_absent x or alters x) 20 refl refl refl refl refl k) (rw q at n)))
