-- Sets as bits of two words, and rows of them.
use Rattle.std.specs.Prelude.{ℕ, ◌%◌, ◌<◌, max, ◌+◌, ◌*◌, ◌^◌, ◌-◌, ◌≤◌, ◌≡◌, refl, false, List, ◌≢◌, eqb, ltb, length, set, replicate}
use Rattle.std.proofs.Common.{ap, ◌∙◌, sym, arith, add-one, eq-eqb, ne_eqb, ltb-true, ltb-false, lt-ltb}
use Rattle.std.specs.Int.{bit_at}
use Rattle.std.specs.Int.Bits.{bit_or}
use Rattle.std.proofs.lemmas.Nat.Bits.{bit_at-zero, bit_at_or, bit_at-lt, bit_at-pow_same, bit_at-pow_other}
use Rattle.std.proofs.Math.ListN.{length-set}
use Rattle.std.proofs.Math.Seq.{set_out, get_or-set_same, get_or-set_other}
use Rattle.std.proofs.Math.Nat.{pow-le-pow_right}
use Rattle.matter.specs.LedgerSteps.{bit, per_word, put_members, with_object, with_process, members_in, is_member, no_members, merged_of, only_member, selves}
use Rattle.labels.specs.Decisions.{◌or◌, at}
use Rattle.labels.proofs.Laws.Decisions.{by_eq, by_test}
use Rattle.matter.specs.declared.Members.{Members}
use Rattle.matter.specs.declared.Ledger.{Ledger}
use Rattle.opens.specs.Opens.{most_objects}

-- Bits: of none, of a union, and of one number.
bit_none : (c : ℕ) → bit 0 c ≡ false
unfolding bit
bit_none c = ap (λ (n : ℕ). eqb n 1) (bit_at-zero c)

or_bit : (x y : ℕ) → x < 2 → y < 2 → eqb (max x y) 1 ≡ (eqb x 1 or eqb y 1)
unfolding ◌or◌
or_bit x y h k =
    by_eq x 0
    (λ p. by_eq y 0 (λ q. rw (p, q)) (λ q. let e : y ≡ 1 = omega arith in rw (p, e)))
    (λ p. let d : x ≡ 1 = omega arith in by_eq y 0 (λ q. rw (d, q)) (λ q. let e : y ≡ 1 = omega arith in rw (d, e)))

bit_or_law : (v w c : ℕ) → bit (bit_or v w) c ≡ (bit v c or bit w c)
unfolding bit
bit_or_law v w c = ap (λ (x : ℕ). eqb x 1) (bit_at_or v w c) ∙ or_bit (bit_at v c) (bit_at w c) (bit_at-lt v c) (bit_at-lt w c)

less_same : (x c : ℕ) → per_word ≤ x → per_word ≤ c → eqb (x - per_word) (c - per_word) ≡ eqb x c
less_same x c h k =
    by_eq x c
    (λ p. eq-eqb (x - per_word) (c - per_word) (ap (λ (n : ℕ). n - per_word) p) ∙ sym (eq-eqb x c p))
    (λ n. ne_eqb (x - per_word) (c - per_word) (omega arith) ∙ sym (ne_eqb x c n))

bit_of_power : (x c : ℕ) → bit (2 ^ x) c ≡ eqb x c
unfolding bit
bit_of_power x c =
    by_eq x c
    (λ e. rw e (ap (λ (n : ℕ). eqb n 1) (bit_at-pow_same c) ∙ sym (eq-eqb c c refl)))
    (λ d. ap (λ (n : ℕ). eqb n 1) (bit_at-pow_other x c (λ e. d (sym e))) ∙ sym (ne_eqb x c d))

-- the bit of a number below 64 is in its word
pub power_fits : (c : ℕ) → c < per_word → 1 * 2 ^ c % 18446744073709551616 ≡ 2 ^ c
power_fits c h =
    let b : c ≤ 63 = omega arith in
    let p : 2 ^ c ≤ 2 ^ 63 = pow-le-pow_right (omega arith) b in
    omega arith

-- Rows that are none.
pub put_out : (words : List ℕ) (r : ℕ) (s : Members) → length words ≤ 2 * r → put_members words r s ≡ words
unfolding put_members
put_out words r s h =
    set_out (set words (2 * r) s.low) (2 * r + 1) s.high (simp length-set (omega arith)) ∙ set_out words (2 * r) s.low h

pub object_kept : (l : Ledger) (x : ℕ) (s : Members) → length l.objects ≡ 256 → 128 ≤ x → l ≡ with_object l x s
unfolding with_object
object_kept l x s e h = ap (λ (w : List ℕ). record { next = l.next; kinds = l.kinds; objects = w; processes = l.processes })
    (sym (put_out l.objects x s (omega arith)))

pub process_kept : (l : Ledger) (p : ℕ) (s : Members) → length l.processes ≡ 64 → 32 ≤ p → l ≡ with_process l p s
unfolding with_process
process_kept l p s e h = ap (λ (w : List ℕ). record { next = l.next; kinds = l.kinds; objects = l.objects; processes = w })
    (sym (put_out l.processes p s (omega arith)))

-- The laws of a row: its own set after a store, the other rows' sets, and the length.
module _ (words : List ℕ) (d : ℕ) (s : Members) where
  pub length_put : length (put_members words d s) ≡ length words
  unfolding put_members
  length_put = length-set (set words (2 * d) s.low) (2 * d + 1) s.high ∙ length-set words (2 * d) s.low

  pub row_same : 2 * d + 1 < length words → members_in (put_members words d s) d ≡ s
  unfolding members_in put_members
  row_same h =
      let low : at (set (set words (2 * d) s.low) (2 * d + 1) s.high) (2 * d) ≡ s.low =
      get_or-set_other (set words (2 * d) s.low) (2 * d + 1) (2 * d) s.high 0 (omega arith) ∙ get_or-set_same words (2 * d) s.low 0 (omega arith) in
      let high : at (set (set words (2 * d) s.low) (2 * d + 1) s.high) (2 * d + 1) ≡ s.high =
      get_or-set_same (set words (2 * d) s.low) (2 * d + 1) s.high 0 (simp length-set (omega arith)) in
      λ i. record { low = low i; high = high i }

  word_other : (k : ℕ) → k ≢ 2 * d → k ≢ 2 * d + 1 → at (put_members words d s) k ≡ at words k
  unfolding put_members
  word_other k m n =
      get_or-set_other (set words (2 * d) s.low) (2 * d + 1) k s.high 0 n ∙ get_or-set_other words (2 * d) k s.low 0 m

  pub row_other : (r : ℕ) → d ≢ r → members_in (put_members words d s) r ≡ members_in words r
  unfolding members_in
  row_other r n =
      let low = word_other (2 * r) (omega arith) (omega arith) in
      let high = word_other (2 * r + 1) (omega arith) (omega arith) in
      λ i. record { low = low i; high = high i }

-- The laws of a set: the empty one, the one of one number, and a union.
pub member_none : (c : ℕ) → is_member no_members c ≡ false
unfolding is_member no_members
member_none c =
    by_test (ltb c per_word) (λ b. rw (b, bit_none c))
    (λ b. by_test (ltb c most_objects) (λ d. rw (b, d, bit_none (c - per_word))) (λ d. rw (b, d)))

pub member_merged : (s t : Members) (c : ℕ) → is_member (merged_of s t) c ≡ (is_member s c or is_member t c)
unfolding is_member merged_of ◌or◌
member_merged s t c =
    by_test (ltb c per_word) (λ b. rw b (bit_or_law s.low t.low c))
    (λ b. by_test (ltb c most_objects) (λ d. rw (b, d) (bit_or_law s.high t.high (c - per_word))) (λ d. rw (b, d)))

-- the number and the member are each in the low word, in the high word, or none
pub member_only : (x c : ℕ) → x < most_objects → is_member (only_member x) c ≡ eqb x c
unfolding is_member only_member
member_only x c h =
    by_test (ltb x per_word)
    (λ a. let j = ltb-true x per_word a in
    by_test (ltb c per_word) (λ b. rw (a, b) (bit_of_power x c))
    (λ b. let k = ltb-false c per_word b in
    let n : x ≢ c = omega arith in
    by_test (ltb c most_objects) (λ d. rw (a, b, d, ne_eqb x c n) (bit_none (c - per_word))) (λ d. rw (a, b, d, ne_eqb x c n))))
    (λ a. let j = ltb-false x per_word a in
    by_test (ltb c per_word)
    (λ b. let k = ltb-true c per_word b in
    let n : x ≢ c = omega arith in
    rw (a, lt-ltb x most_objects h, b, ne_eqb x c n) (bit_none c))
    (λ b. let k = ltb-false c per_word b in
    by_test (ltb c most_objects)
    (λ d. rw (a, lt-ltb x most_objects h, b, d) (bit_of_power (x - per_word) (c - per_word) ∙ less_same x c j k))
    (λ d. let m = ltb-false c most_objects d in
    let n : x ≢ c = omega arith in
    rw (a, lt-ltb x most_objects h, b, d, ne_eqb x c n))))

-- one turn of the loop of the start
pub selves_none : replicate 256 0 ≡ selves 0
unfolding selves
selves_none = refl

pub selves_more : (words : List ℕ) (n : ℕ) (s : Members) → words ≡ selves n → s ≡ only_member n
    → set (set words (2 * n) s.low) (2 * n + 1) s.high ≡ selves (n + 1)
unfolding selves put_members
selves_more words n s e h = rw (add-one n, e, h)
