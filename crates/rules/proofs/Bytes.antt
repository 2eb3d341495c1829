-- Bytes and records: each is told by the other.
use Rattle.std.specs.Prelude.{ℕ, zero, suc, ◌*◌, ◌≤◌, ◌≡◌, refl, List, [], ◌∷◌, ◌++◌, length, drop}
use Rattle.std.proofs.Common.{ap, sym, length-drop, arith}
use Rattle.std.proofs.lemmas.List.{nil_from_length}
use Rattle.rules.specs.Setup.{SetupRecord, first_record, records_of, bytes_of, bytes_of_all}

eight : (s : List ℕ) → 8 ≤ length s → bytes_of (first_record s) ++ drop 8 s ≡ s
eight [] h = absurd (omega arith)
eight (a ∷ []) h = absurd (omega arith)
eight (a ∷ b ∷ []) h = absurd (omega arith)
eight (a ∷ b ∷ c ∷ []) h = absurd (omega arith)
eight (a ∷ b ∷ c ∷ d ∷ []) h = absurd (omega arith)
eight (a ∷ b ∷ c ∷ d ∷ e ∷ []) h = absurd (omega arith)
eight (a ∷ b ∷ c ∷ d ∷ e ∷ f ∷ []) h = absurd (omega arith)
eight (a ∷ b ∷ c ∷ d ∷ e ∷ f ∷ g ∷ []) h = absurd (omega arith)
eight (a ∷ b ∷ c ∷ d ∷ e ∷ f ∷ g ∷ i ∷ s) h = refl

pub bytes_of_records : (n : ℕ) (s : List ℕ) → length s ≡ n * 8 → bytes_of_all (records_of n s) ≡ s
unfolding bytes_of_all records_of
bytes_of_records zero s h = sym (nil_from_length s (omega arith))
bytes_of_records (suc n) s h =
    let l : length (drop 8 s) ≡ n * 8 = simp length-drop (omega arith) in
    rw (bytes_of_records n (drop 8 s) l) (eight s (omega arith))

pub records_of_bytes : (rs : List SetupRecord) → records_of (length rs) (bytes_of_all rs) ≡ rs
unfolding bytes_of_all records_of
records_of_bytes [] = refl
records_of_bytes (r ∷ rs) = ap (λ (l : List SetupRecord). r ∷ l) (records_of_bytes rs)

pub bytes_length : (rs : List SetupRecord) → length (bytes_of_all rs) ≡ length rs * 8
unfolding bytes_of_all
bytes_length [] = refl
bytes_length (r ∷ rs) = let h = bytes_length rs in omega arith
