-- The loop that reads records is the definition's reading.
use Rattle.std.specs.Prelude.{ℕ, ◌*◌, ◌-◌, suc, ◌+◌, ◌<◌, zero, ◌≤◌, ◌/◌, ◌%◌, ◌≡◌, refl, ◌≢◌, true, false, drop, length, take}
use mathlib.Core.List.{List, ◌∷◌, [], ◌++◌}
use Rattle.std.proofs.Common.{◌∙◌, drop-drop, get_or-take, arith, add-one, eq-eqb, ne_eqb, eqb-true, ltb-true, leb-true}
use Rattle.std.proofs.Math.Path.{ap, sym, subst⁻¹}
use Rattle.std.proofs.Math.Seq.{take-append_seam, drop-append_seam}
use Rattle.std.proofs.lemmas.List.{length-append, length-drop}
use Rattle.rules.specs.declared.SetupRecord.{SetupRecord}
use Rattle.rules.specs.Setup.{records_of, first_record, enter_all, enter_record, refused_setup, allowed_length, read_setup}
use Rattle.state.specs.declared.Facility.{Facility}
use Rattle.state.specs.State.{all_off, blank}
use Rattle.setup.specs.Progress.{Progress, none_before, progress_after}
use Rattle.setup.specs.Laws.SameNumber.{Kept, none, number_by, number_same, kept_more}
use Rattle.rules.specs.Kinds.{record_number}
use Rattle.rules.proofs.Records.{accepts}
use Rattle.rules.proofs.Fresh.{Read, read_record, read_none}
use Rattle.answers.specs.Outcomes.{setup_accepted}
use Rattle.labels.proofs.Laws.Decisions.{and_l, and_r}

-- the records from k on, of n in the bytes s
abbrev pub left : List ℕ → ℕ → ℕ → List SetupRecord
left s n k = records_of (n - k) (drop (k * 8) s)

left_more : (s : List ℕ) (n k : ℕ) → k < n → left s n k ≡ first_record (drop (k * 8) s) ∷ left s n (k + 1)
unfolding records_of
left_more s n k h =
    let e : n - k ≡ suc (n - (k + 1)) = omega arith in
    let d : k * 8 + 8 ≡ (k + 1) * 8 = omega arith in
    ap (λ (m : ℕ). records_of m (drop (k * 8) s)) e
    ∙ ap (λ (l : List ℕ). first_record (drop (k * 8) s) ∷ records_of (n - (k + 1)) l) (drop-drop 8 (k * 8) s ∙ ap (λ (m : ℕ). drop m s) d)

-- the records before k, the last one first
unfoldable pub past_of : List ℕ → ℕ → List SetupRecord
past_of s zero = []
past_of s (suc k) = first_record (drop (k * 8) s) ∷ past_of s k

past_more : (s : List ℕ) (k : ℕ) → past_of s (k + 1) ≡ first_record (drop (k * 8) s) ∷ past_of s k
unfolding past_of
past_more s k = rw (add-one k)

pub past_length : (s : List ℕ) (k : ℕ) → length (past_of s k) ≡ k
unfolding past_of
past_length s zero = refl
past_length s (suc k) = ap suc (past_length s k)

-- What a reader at record k of n holds: the rest is read as the whole is, what it keeps is kept of the records before k, and what it has built
-- was read from them.
pub record At (s : List ℕ) (n k : ℕ) (f : Facility) (p : Progress) : Type 0 where
  pub whole : enter_all [] (blank all_off) (records_of n s) ≡ enter_all (past_of s k) f (left s n k)
  pub kept : Kept p (past_of s k)
  pub read : Read (past_of s k) f

pub begins : (s : List ℕ) (n : ℕ) (f : Facility) (p : Progress) → f ≡ blank all_off → p ≡ none_before → At s n 0 f p
unfolding past_of
begins s n f p a b =
    let e : n ≡ n - 0 = omega arith in
    record {
      whole = (λ i. enter_all [] (sym a i) (records_of (e i) s));
      kept = none (ap (λ (x : Progress). x.kind) b) (ap (λ (x : Progress). x.count) b);
      read = subst⁻¹ (Read []) a read_none;
    }

module _ (s : List ℕ) (n k : ℕ) (f : Facility) (p : Progress) (r : SetupRecord) (h : k < n) (A : At s n k f p) (this : r ≡ first_record (drop (k * 8) s)) where
  left_this : left s n k ≡ r ∷ left s n (k + 1)
  left_this = left_more s n k h ∙ ap (λ (x : SetupRecord). x ∷ left s n (k + 1)) (sym this)

  past_this : past_of s (k + 1) ≡ r ∷ past_of s k
  past_this = past_more s k ∙ ap (λ (x : SetupRecord). x ∷ past_of s k) (sym this)

  number_is : number_by p f r ≡ record_number (past_of s k) r
  number_is = number_same p (past_of s k) f r A.kept A.read.1

  -- a record that is accepted is entered
  pub goes_on : number_by p f r ≡ 0 → At s n (k + 1) (enter_record f r) (progress_after p r.kind)
  unfolding enter_all
  goes_on z =
      let e = sym number_is ∙ z in
      record {
        whole = A.whole ∙ ap (enter_all (past_of s k) f) left_this
            ∙ rw (eq-eqb _ 0 e) (ap (λ (past : List SetupRecord). enter_all past (enter_record f r) (left s n (k + 1))) (sym past_this));
        kept = subst⁻¹ (Kept (progress_after p r.kind)) past_this
            (kept_more p (past_of s k) r A.kept (accepts (past_of s k) r e).fits (accepts (past_of s k) r e).room);
        read = subst⁻¹ (λ (past : List SetupRecord). Read past (enter_record f r)) past_this
            (read_record (past_of s k) f r A.read (accepts (past_of s k) r e));
      }

  -- one that is refused ends the reading
  pub stops : number_by p f r ≢ 0 → refused_setup (number_by p f r) k ≡ enter_all [] (blank all_off) (records_of n s)
  unfolding enter_all
  stops z =
      sym (A.whole ∙ ap (enter_all (past_of s k) f) left_this
      ∙ rw (ne_eqb _ 0 (λ y. z (number_is ∙ y))) (λ i. refused_setup (sym number_is i) (past_length s k i)))

pub ends : (s : List ℕ) (n k : ℕ) (f : Facility) (p : Progress) → n ≤ k → At s n k f p
    → record { outcome = setup_accepted; facility = f } ≡ enter_all [] (blank all_off) (records_of n s)
unfolding enter_all records_of
ends s n k f p h A =
    let e : n - k ≡ 0 = omega arith in
    sym (A.whole ∙ ap (λ (m : ℕ). enter_all (past_of s k) f (records_of m (drop (k * 8) s))) e)

-- the record of eight bytes that are lent
first_eight : (l : List ℕ) → first_record (take 8 l) ≡ first_record l
first_eight l =
    λ i. record {
      kind = get_or-take 8 l 0 0 (omega arith) i;
      one = get_or-take 8 l 1 0 (omega arith) i;
      two = get_or-take 8 l 2 0 (omega arith) i;
      three = get_or-take 8 l 3 0 (omega arith) i;
      four = get_or-take 8 l 4 0 (omega arith) i;
      five = get_or-take 8 l 5 0 (omega arith) i;
      six = get_or-take 8 l 6 0 (omega arith) i;
      seven = get_or-take 8 l 7 0 (omega arith) i;
    }

pub record_lent : (s : List ℕ) (from : ℕ) → first_record (take (from + 8 - from) (drop from s)) ≡ first_record (drop from s)
record_lent s from =
    let e : from + 8 - from ≡ 8 = omega arith in
    ap (λ (n : ℕ). first_record (take n (drop from s))) e ∙ first_eight (drop from s)

-- an allowed length is one of at most 145 records, whose number fits two bytes
pub few_records : (n : ℕ) → allowed_length n ≡ true → n / 8 % 65536 ≡ n / 8
unfolding allowed_length
few_records n h = let b : n ≤ 1160 = leb-true _ _ (and_r _ _ (and_r _ _ h)) in omega arith

pub some_records : (n : ℕ) → allowed_length n ≡ true → (1 ≤ n / 8 % 65536) × (n / 8 % 65536 * 8 ≤ n)
unfolding allowed_length
some_records n h =
    let w : n % 8 ≡ 0 = eqb-true _ _ (and_l _ _ h) in
    let l : 0 < n = ltb-true _ _ (and_l _ _ (and_r _ _ h)) in
    let e = few_records n h in
    (omega arith, omega arith)

pub refused_length_law : (s : List ℕ) → allowed_length (length s) ≡ false → refused_setup 14 0 ≡ read_setup s
unfolding read_setup
refused_length_law s h = rw h

pub allowed_records : (s : List ℕ) → allowed_length (length s) ≡ true → enter_all [] (blank all_off) (records_of (length s / 8 % 65536) s) ≡ read_setup s
unfolding read_setup
allowed_records s h = rw (h, few_records (length s) h)

-- The records as chunks of eight bytes: chunk k, and the bytes t behind it.
module _ (s x t : List ℕ) (k : ℕ) (e : drop (k * 8) s ≡ x ++ t) (n : length x ≡ 8) where
  pub chunk_first : first_record x ≡ first_record (drop (k * 8) s)
  chunk_first =
      ap first_record (sym (take-append_seam x t) ∙ ap (λ (m : ℕ). take m (x ++ t)) n) ∙ first_eight (x ++ t) ∙ ap first_record (sym e)

  pub chunk_rest : t ≡ drop ((k + 1) * 8) s
  chunk_rest =
      let d : k * 8 + 8 ≡ (k + 1) * 8 = omega arith in
      sym (drop-append_seam x t) ∙ ap (λ (m : ℕ). drop m (x ++ t)) n ∙ ap (drop 8) (sym e) ∙ drop-drop 8 (k * 8) s ∙ ap (λ (m : ℕ). drop m s) d

  pub chunk_within : k < length s / 8
  chunk_within =
      let l : length (drop (k * 8) s) ≡ 8 + length t = ap length e ∙ length-append x t ∙ ap (λ (m : ℕ). m + length t) n in
      let d : length (drop (k * 8) s) ≡ length s - k * 8 = length-drop (k * 8) s in
      omega arith

-- fewer than eight bytes are left: there is no other chunk
pub no_chunk : (s t : List ℕ) (k : ℕ) → t ≡ drop (k * 8) s → length t < 8 → length s / 8 ≤ k
no_chunk s t k e h =
    let d : length t ≡ length s - k * 8 = ap length e ∙ length-drop (k * 8) s in
    omega arith

-- an allowed length is one of 1 to 145 records
pub few_whole_records : (n : ℕ) → allowed_length n ≡ true → (1 ≤ n / 8) × (n / 8 < 65536)
unfolding allowed_length
few_whole_records n h =
    let b : n ≤ 1160 = leb-true _ _ (and_r _ _ (and_r _ _ h)) in
    let w : n % 8 ≡ 0 = eqb-true _ _ (and_l _ _ h) in
    let l : 0 < n = ltb-true _ _ (and_l _ _ (and_r _ _ h)) in
    (omega arith, omega arith)

pub whole_records : (s : List ℕ) → allowed_length (length s) ≡ true → enter_all [] (blank all_off) (records_of (length s / 8) s) ≡ read_setup s
unfolding read_setup
whole_records s h = rw h
