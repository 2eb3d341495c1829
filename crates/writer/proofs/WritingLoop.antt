-- The loops that store records are the definition's writing.
use Prim.Native.Nat.{ℕ, suc, ◌+◌, ◌*◌, ◌≤◌, ◌<◌}
use mathlib.Core.Path.{◌≡◌, ◌∙◌, ap, refl, sym, subst}
use mathlib.Core.List.{List, [], ◌∷◌, ◌++◌, map, map-append}
use mathlib.Core.Bool.{Bool, cond}
use lib.ListN.{length, length-append, length-map, drop}
use lib.Dec.{leb}
use lib.Seq.{length-sets, sets, sets-eq}
use native.Mathlib.Omega.{arith}
use native.Mathlib.Numerals.{add-one}
use borrow.Author.Tests.{le-leb, lt-leb, ne_eqb}
use Rattle.rules.specs.declared.SetupRecord.{SetupRecord}
use Rattle.writer.specs.Writing.{section_of, put_one, put_all, Stored, live_record}
use Rattle.labels.proofs.Laws.Decisions.{by_test}
use Rattle.rules.specs.Setup.{bytes_of, listed, bytes_of_all, write_setup, setup_records, setup_bytes}
use Rattle.rules.proofs.Bytes.{bytes_length}
use Rattle.rules.proofs.Listed.{listed_length}
use Rattle.state.specs.declared.Object.{Object}
use Rattle.state.specs.State.{Objects}
use Rattle.opens.specs.Laws.Loops.{sets_append}
use Rattle.answers.specs.Outcomes.{WriteOutcome, no_room as no_room_outcome, written}
use Rattle.state.specs.declared.Facility.{Facility}

put_append : (o : List ℕ) (p : ℕ) (xs ys : List SetupRecord) → put_all (put_all o p xs) (p + length xs * 8) ys ≡ put_all o p (xs ++ ys)
unfolding put_all
put_append o p [] ys = let e : p + 0 ≡ p = omega arith in ap (λ (k : ℕ). put_all o k ys) e
put_append o p (x ∷ xs) ys =
    let e : p + suc (length xs) * 8 ≡ (p + 8) + length xs * 8 = omega arith in
    ap (λ (k : ℕ). put_all (put_all (put_one o p x) (p + 8) xs) k ys) e ∙ put_append (put_one o p x) (p + 8) xs ys

put_length : (o : List ℕ) (p : ℕ) (rs : List SetupRecord) → length (put_all o p rs) ≡ length o
unfolding put_all
put_length o p [] = refl
put_length o p (r ∷ rs) =
    put_length (put_one o p r) (p + 8) rs
    ∙ by_test (leb (p + 8) (length o)) (λ e. rw e (length-sets o p (bytes_of r))) (λ e. rw e)

stored_length : (o : List ℕ) (p : ℕ) (rs : List SetupRecord) (m : List ℕ) (q : ℕ) → Stored o p rs m q → length m ≡ length o
stored_length o p rs m q s = ap length s.buffer ∙ put_length o p rs

-- nothing is stored; one record; and what is stored behind
pub nothing : (o : List ℕ) (p : ℕ) → Stored o p [] o p
unfolding put_all
nothing o p = record { buffer = refl; place = omega arith }

pub one_fits : (o : List ℕ) (p : ℕ) (r : SetupRecord) → p + 8 ≤ length o → Stored o p (r ∷ []) (sets o p (bytes_of r)) (p + 8)
unfolding put_all
one_fits o p r h = record { buffer = rw (le-leb (p + 8) (length o) h); place = omega arith }

pub one_left : (o : List ℕ) (p : ℕ) (r : SetupRecord) → length o < p + 8 → Stored o p (r ∷ []) o (p + 8)
unfolding put_all
one_left o p r h = record { buffer = rw (lt-leb (p + 8) (length o) h); place = omega arith }

pub then : (o l m : List ℕ) (p q r : ℕ) (xs ys : List SetupRecord) → Stored o p xs l q → Stored l q ys m r → Stored o p (xs ++ ys) m r
then o l m p q r xs ys a b =
    let e = length-append xs ys in
    record {
      buffer = b.buffer ∙ (λ i. put_all (a.buffer i) (a.place i) ys) ∙ put_append o p xs ys;
      place = omega (arith, a.place, b.place);
    }

abbrev pub next_of : {A : Type 0} → (A → SetupRecord) → ℕ → (ℕ → Bool) → (ℕ → A) → List SetupRecord
next_of item n test value = map item (cond (test n) (value n ∷ []) [])

section_more : {A : Type 0} (item : A → SetupRecord) (n : ℕ) (test : ℕ → Bool) (value : ℕ → A)
    → section_of item (n + 1) test value ≡ section_of item n test value ++ next_of item n test value
unfolding listed
section_more item n test value =
    ap (λ (k : ℕ). section_of item k test value) (add-one n) ∙ map-append item (listed n test value) (cond (test n) (value n ∷ []) [])

-- a section of n numbers takes at most 8 bytes for each
pub section_most : {A : Type 0} (item : A → SetupRecord) (n : ℕ) (test : ℕ → Bool) (value : ℕ → A) (o l : List ℕ) (p q : ℕ)
    → Stored o p (section_of item n test value) l q → q ≤ p + n * 8
section_most item n test value o l p q a =
    let m = length-map (listed n test value) item in
    let h = listed_length n test value in
    omega (arith, a.place)

-- What a loop that stores a section holds at number k of n: the section so far, from place p of the buffer o on.
pub record Storing {A : Type 0} (item : A → SetupRecord) (test : ℕ → Bool) (value : ℕ → A) (n : ℕ) (o : List ℕ) (p k : ℕ) (m : List ℕ) (q : ℕ) : Type 0 where
  pub most : k ≤ n
  pub stored : Stored o p (section_of item k test value) m q

module _ {A : Type 0} {item : A → SetupRecord} {test : ℕ → Bool} {value : ℕ → A} {n : ℕ} {o : List ℕ} {p : ℕ} where
  pub section_begins : Storing item test value n o p 0 o p
  unfolding listed
  section_begins = record { most = omega arith; stored = nothing o p }

  module _ {k q : ℕ} {l : List ℕ} (S : Storing item test value n o p k l q) where
    -- the place is one that `put_record` takes, since a byte counts the numbers
    pub section_place : p ≤ 65536 → n < 256 → q ≤ 131072
    section_place b c = let h = section_most item k test value o l p q S.stored in omega (arith, S.most)

    -- the next number's is stored behind
    pub section_goes_on : {m : List ℕ} {r : ℕ} → k < n → Stored l q (next_of item k test value) m r → Storing item test value n o p (k + 1) m r
    section_goes_on {m} {r} h b =
        record {
          most = omega arith;
          stored = subst (λ (rs : List SetupRecord). Stored o p rs m r) (sym (section_more item k test value)) (then o l m p q r _ _ S.stored b);
        }

    pub section_length : length l ≡ length o
    section_length = stored_length _ _ _ _ _ S.stored

    pub section_ends : n ≤ k → Stored o p (section_of item n test value) l q
    section_ends h =
        let e : k ≡ n = omega (arith, S.most) in
        subst (λ (j : ℕ). Stored o p (section_of item j test value) l q) e S.stored

pub dead_stored : (o : List ℕ) (p : ℕ) (y : Objects) (x : Object) → (x.live ≡ 1 → ⊥) → Stored o p (live_record y x) o p
dead_stored o p y x h = rw (ne_eqb _ 1 h) (nothing o p)

-- In a buffer without bytes nothing is stored; where there is room, all bytes are.
pub put_none : (p : ℕ) (rs : List SetupRecord) → put_all [] p rs ≡ []
unfolding put_all
put_none p [] = refl
put_none p (r ∷ rs) = rw (lt-leb (p + 8) 0 (omega arith)) (put_none (p + 8) rs)

put_room : (o : List ℕ) (p : ℕ) (rs : List SetupRecord) → p + length rs * 8 ≤ length o → put_all o p rs ≡ sets o p (bytes_of_all rs)
unfolding put_all bytes_of_all
put_room o p [] h = refl
put_room o p (r ∷ rs) h =
    let n = length-sets o p (bytes_of r) in
    rw (le-leb (p + 8) (length o) (omega arith))
    (put_room (sets o p (bytes_of r)) (p + 8) rs (omega arith) ∙ sets_append o p (bytes_of r) (bytes_of_all rs))

-- what the writer answers and leaves, by the length that the first pass told
pub record Answered (f : Facility) (o : List ℕ) (outcome : WriteOutcome) (buffer : List ℕ) : Type 0 where
  pub told : outcome ≡ (write_setup f o).outcome
  pub left : buffer ≡ (write_setup f o).buffer

whole_length : (f : Facility) (o m : List ℕ) (q : ℕ) → Stored o 0 (setup_records f) m q → q ≡ length (setup_bytes f)
unfolding setup_bytes
whole_length f o m q s = let b = bytes_length (setup_records f) in omega (arith, s.place)

pub no_room : (f : Facility) (o l m : List ℕ) (q : ℕ) → Stored l 0 (setup_records f) m q → length o < q → Answered f o no_room_outcome o
unfolding write_setup
no_room f o l m q s h =
    let e = whole_length f l m q s in
    let b : length (setup_bytes f) ≡ q = omega arith in
    let c = lt-leb (length (setup_bytes f)) (length o) (omega arith) in
    record { told = rw c; left = rw c }

pub all_room : (f : Facility) (o m : List ℕ) (q : ℕ) → q ≤ length o → Stored o 0 (setup_records f) m q → Answered f o (written q) m
unfolding write_setup setup_bytes
all_room f o m q h s =
    let e = whole_length f o m q s in
    let c = le-leb (length (bytes_of_all (setup_records f))) (length o) (omega arith) in
    let z : 0 + length (bytes_of_all (setup_records f)) ≡ length (bytes_of_all (setup_records f)) = omega arith in
    record {
      told = rw c (ap (λ (n : ℕ). written n) e);
      left = rw c (s.buffer ∙ put_room o 0 (setup_records f) (omega (arith, s.place)) ∙ sets-eq (bytes_of_all (setup_records f)) o 0 (omega arith)
          ∙ ap (λ (n : ℕ). bytes_of_all (setup_records f) ++ drop n o) z);
    }
