-- Records: an allowed one is the one that is written out for what it enters; what the questions tell of an accepted one; the kinds by cases.
use Rattle.std.specs.Prelude.{ℕ, ◌≤◌, ◌≡◌, refl, Bool, true, false, not, cond, List, leb, eqb}
use Rattle.std.proofs.Common.{sym, ◌∙◌, ap, subst, arith, eqb-true, ne_eqb}
use Rattle.labels.specs.Decisions.{◌and◌, ask}
use Rattle.labels.proofs.Laws.Decisions.{and_l, and_r, clash, by_eq, ask_yes, ask_later, ask_i}
use Rattle.rules.specs.Kinds.{SetupRecord, Byte, Zero, Upto, OrUnset, Bits, Kind, no_kind, kind_of, fits, room, byte_allowed, allowed_by, allowed}
use Rattle.rules.specs.Kinds.{parent_fits, record_number}

-- what is kept of a byte, and of a record of kind k: a byte that must be 0 is written as 0, any other as it came
kept_byte : Byte → ℕ → ℕ
kept_byte Zero b = 0
kept_byte (Upto n) b = b
kept_byte (OrUnset n) b = b
kept_byte (Bits n) b = b

unfoldable pub kept : ℕ → SetupRecord → SetupRecord
unfolding kept_byte
kept k r =
    record {
      kind = k;
      one = kept_byte (kind_of k).one r.one;
      two = kept_byte (kind_of k).two r.two;
      three = kept_byte (kind_of k).three r.three;
      four = kept_byte (kind_of k).four r.four;
      five = kept_byte (kind_of k).five r.five;
      six = kept_byte (kind_of k).six r.six;
      seven = kept_byte (kind_of k).seven r.seven;
    }

kept_byte_law : (d : Byte) (b : ℕ) → byte_allowed d b ≡ true → kept_byte d b ≡ b
unfolding kept_byte
kept_byte_law Zero b h = sym (eqb-true b 0 h)
kept_byte_law (Upto n) b h = refl
kept_byte_law (OrUnset n) b h = refl
kept_byte_law (Bits n) b h = refl

-- THE LAW of all kinds: of an allowed record nothing is lost
pub kept_record : (k : ℕ) (r : SetupRecord) → r.kind ≡ k → allowed_by (kind_of k) r ≡ true → kept k r ≡ r
unfolding allowed_by kept
kept_record k r e a1 =
    let a2 = and_r _ _ a1 in
    let a3 = and_r _ _ a2 in
    let a4 = and_r _ _ a3 in
    let a5 = and_r _ _ a4 in
    let a6 = and_r _ _ a5 in
    let a7 = and_r _ _ a6 in
    λ i. record {
      kind = sym e i;
      one = kept_byte_law (kind_of k).one r.one (and_l _ _ a1) i;
      two = kept_byte_law (kind_of k).two r.two (and_l _ _ a2) i;
      three = kept_byte_law (kind_of k).three r.three (and_l _ _ a3) i;
      four = kept_byte_law (kind_of k).four r.four (and_l _ _ a4) i;
      five = kept_byte_law (kind_of k).five r.five (and_l _ _ a5) i;
      six = kept_byte_law (kind_of k).six r.six (and_l _ _ a6) i;
      seven = kept_byte_law (kind_of k).seven r.seven (and_l _ _ a7) i;
    }

pub allowed_as : (k : ℕ) (past : List SetupRecord) (r : SetupRecord) → r.kind ≡ k → allowed past r ≡ true → allowed_by (kind_of k) r ≡ true
unfolding allowed
allowed_as k past r e h = subst (λ (j : ℕ). allowed_by (kind_of j) r ≡ true) e h

-- What the questions tell of an accepted record.
pub record Accepts (past : List SetupRecord) (r : SetupRecord) : Type 0 where
  pub fits : fits past r ≡ true
  pub room : room past r ≡ true
  pub allowed : allowed past r ≡ true
  pub parent : parent_fits past r ≡ true

pub accepts : (past : List SetupRecord) (r : SetupRecord) → record_number past r ≡ 0 → Accepts past r
unfolding record_number
accepts past r h =
    let h2 = ask_later _ _ _ h in
    let h3 = ask_later _ _ _ h2 in
    record { fits = ask_yes _ _ _ h; room = ask_yes _ _ _ h2; allowed = ask_yes _ _ _ h3; parent = ask_yes _ _ _ (ask_later _ _ _ h3) }

pub accepted_number : (past : List SetupRecord) (r : SetupRecord) → Accepts past r → record_number past r ≡ 0
unfolding record_number
accepted_number past r A = ask_i _ _ _ A.fits (ask_i _ _ _ A.room (ask_i _ _ _ A.allowed (ask_i _ _ _ A.parent refl)))

-- 19 is asked last
pub nineteen : (past : List SetupRecord) (r : SetupRecord)
    → eqb (record_number past r) 19 ≡ (fits past r and room past r and allowed past r and not (parent_fits past r))
unfolding record_number ask ◌and◌
nineteen past r = four (fits past r) (room past r) (allowed past r) (parent_fits past r)
  where
    four : (a b c d : Bool) → eqb (ask a 15 (ask b 16 (ask c 17 (ask d 19 0)))) 19 ≡ (a and b and c and not d)
    four false b c d = refl
    four true false c d = refl
    four true true false d = refl
    four true true true false = refl
    four true true true true = refl

-- The kinds by cases: the one place beside the table that lists them. The first record is 3, a later one any other kind of the table.
pub by_any {ℓ} : {A : Type ℓ} (k : ℕ) → (k ≡ 3 → A) → (k ≡ 1 → A) → (k ≡ 2 → A) → (kind_of k ≡ no_kind → A) → A
unfolding kind_of
by_any k c3 c1 c2 none =
    by_eq k 3 c3
    (λ n3. by_eq k 1 c1
    (λ n1. by_eq k 2 c2
    (λ n2. none (rw (ne_eqb k 3 n3, ne_eqb k 1 n1, ne_eqb k 2 n2)))))

pub first_kind : (k : ℕ) → eqb (kind_of k).place 1 ≡ true → k ≡ 3
unfolding kind_of
first_kind k h = by_any k (λ e. e) (λ e. no e refl) (λ e. no e refl) (λ z. clash h (ap (λ (d : Kind). eqb d.place 1) z))
  where
    no : {j : ℕ} → k ≡ j → eqb (kind_of j).place 1 ≡ false → k ≡ 3
    no {j} e f = clash h (ap (λ (i : ℕ). eqb (kind_of i).place 1) e ∙ f)

pub by_kind {ℓ} : {A : Type ℓ} (k : ℕ) → leb 2 (kind_of k).place ≡ true → (k ≡ 1 → A) → (k ≡ 2 → A) → A
unfolding kind_of
by_kind k h c1 c2 =
    by_any k (λ e. clash h (ap (λ (i : ℕ). leb 2 (kind_of i).place) e)) c1 c2 (λ z. clash h (ap (λ (d : Kind). leb 2 d.place) z))

-- no two kinds have one place
kind_at : ℕ → ℕ
kind_at p = cond (eqb p 1) 3 (cond (eqb p 2) 1 2)

kind_at_law : (k : ℕ) → 1 ≤ (kind_of k).place → kind_at (kind_of k).place ≡ k
unfolding kind_of kind_at
kind_at_law k h =
    by_any k (λ e. rw e refl) (λ e. rw e refl) (λ e. rw e refl)
    (λ z. let y : (kind_of k).place ≡ 0 = ap (λ d. d.place) z in absurd (omega arith))

pub one_place : (j k : ℕ) → 1 ≤ (kind_of j).place → (kind_of j).place ≡ (kind_of k).place → j ≡ k
one_place j k h e = sym (kind_at_law j h) ∙ ap kind_at e ∙ kind_at_law k (omega arith)
