-- A field that is stored whole, and so the opens, and a counter; and what `Becomes` promises fixes every byte.
use Prim.Native.Nat.{ℕ, suc, ◌+◌, ◌*◌, ◌≤◌, ◌<◌}
use mathlib.Core.Bool.{cond}
use mathlib.Core.List.{List, ◌∷◌, [], ◌++◌, append-nil}
use mathlib.Core.Path.{◌≡◌, refl, ◌∙◌, ap, fun_ext, sym, ap₂}
use lib.Dec.{eqb, ltb}
use lib.Seq.{sets, sets-eq, take-add, ext_get_or, take-append_seam, drop-append_seam}
use lib.ListN.{length, drop_of_length-le, take, drop}
use Rattle.std.proofs.lemmas.List.{take_all}
use native.Mathlib.Omega.{arith}
use borrow.Author.Tests.{eq-eqb, ne_eqb, ltb-true, ltb-false}
use Rattle.labels.proofs.Laws.Decisions.{by_eq, by_test}
use Rattle.in_place.specs.Stores.{store_field, store_in, padding_in, Becomes}
use Rattle.in_place.specs.Layout.{size, offset, field_of, whole_size, the_refusals, facility_at, the_mac, the_fc, the_sim, the_users, the_entered}
use Rattle.in_place.specs.Layout.{facility_of, words, the_opens, the_padding, the_clearances, the_roles, the_trusts, the_lives, the_kinds, the_levels}
use Rattle.in_place.specs.Layout.{the_categories, the_datatypes, the_runnings, the_owners, the_currents, the_readmarks, the_writemarks, the_automatics}
use Rattle.in_place.specs.Layout.{the_ff, the_flags, the_parents, the_moves, the_clearancesets, the_sets, the_currentsets, the_readsets, the_writesets}
use Rattle.in_place.specs.Layout.{the_last_padding}
use Rattle.in_place.proofs.Stored.{put_back, store_inside, stored}
use Rattle.in_place.specs.Fields.{BecomesUnique}
use Rattle.in_place.proofs.Changed.{field_length}
use Rattle.in_place.proofs.Words.{four_sets, same_words, words_stored}
use Rattle.labels.specs.Decisions.{at}
use Rattle.in_place.proofs.BytesOfParts.{byte_in, byte_past}
use Rattle.state.specs.declared.Facility.{Facility}
use Rattle.opens.specs.Opens.{most_opens}
use Rattle.state.specs.State.{counted, most_refusals, most_users, one_more, put_opens, put_refusals, refusals_of}

-- the fields with the bytes of field k from its byte i on replaced, and with all of it replaced
abbrev put_bytes : (ℕ → List ℕ) → ℕ → ℕ → List ℕ → ℕ → List ℕ
put_bytes g k i l j = cond (eqb j k) (sets (g k) i l) (g j)

more_put : (g : ℕ → List ℕ) (k i x : ℕ) (xs : List ℕ) (j : ℕ) → put_bytes (store_field g k i x) k (suc i) xs j ≡ put_bytes g k i (x ∷ xs) j
more_put g k i x xs j = by_eq j k (λ e. rw (eq-eqb j k e, eq-eqb k k refl)) (λ e. rw (ne_eqb j k e))

bytes_put : (l s : List ℕ) (k i : ℕ) → i + length l ≤ size k → field_of (sets s (offset k + i) l) ≡ put_bytes (field_of s) k i l
bytes_put [] s k i h = fun_ext (λ j. by_eq j k (λ e. rw (eq-eqb j k e) (ap (field_of s) e)) (λ e. rw (ne_eqb j k e)))
bytes_put (x ∷ xs) s k i h =
    let m = store_in s (offset k) (size k) i x in
    let q : suc (offset k + i) ≡ offset k + suc i = omega arith in
    ap (λ (l : List ℕ). field_of (sets l (suc (offset k + i)) xs)) (store_inside s (offset k) (size k) i x (omega arith))
    ∙ ap (λ (n : ℕ). field_of (sets m n xs)) q
    ∙ bytes_put xs m k (suc i) (omega arith)
    ∙ ap (λ (g : ℕ → List ℕ). put_bytes g k (suc i) xs) (stored s m (field_of s) k i x refl refl)
    ∙ fun_ext (λ j. more_put (field_of s) k i x xs j)

all_set : (l o : List ℕ) → length l ≡ length o → sets o 0 l ≡ l
all_set l o h =
    sets-eq l o 0 (omega arith)
    ∙ ap (λ (r : List ℕ). l ++ r) (drop_of_length-le o {i = 0 + length l} (omega arith))
    ∙ append-nil l

-- what a store of a whole field makes of the fields
abbrev put_field : (ℕ → List ℕ) → ℕ → List ℕ → ℕ → List ℕ
put_field g k l j = cond (eqb j k) l (g j)

field_stored : (s m l : List ℕ) (k : ℕ) → offset k + size k ≤ length s → length l ≡ size k → m ≡ sets s (offset k) l → field_of m ≡ put_field (field_of s) k l
field_stored s m l k b n h =
    let z : offset k ≡ offset k + 0 = omega arith in
    let w = field_length s k b in
    ap field_of h ∙ ap (λ (i : ℕ). field_of (sets s i l)) z ∙ bytes_put l s k 0 (omega arith)
    ∙ ap (λ (x : List ℕ). put_field (field_of s) k x) (all_set l (field_of s k) (omega arith))

-- two lists of bytes that are the same up to a field, and in it
and_field : (m n : List ℕ) (k : ℕ) → take (offset k) m ≡ take (offset k) n → field_of m k ≡ field_of n k → take (offset (suc k)) m ≡ take (offset (suc k)) n
and_field m n k t h = take-add (offset k) (size k) m ∙ ap₂ (λ (x y : List ℕ). x ++ y) t h ∙ sym (take-add (offset k) (size k) n)

one_byte : (l r : List ℕ) → length l ≡ 1 → length r ≡ 1 → at l 0 ≡ at r 0 → l ≡ r
one_byte l r h k e = ext_get_or 0 l r (h ∙ sym k) (λ i b. let z : i ≡ 0 = omega arith in rw z e)

-- a byte of a field is a byte
field_byte : (m : List ℕ) (k i : ℕ) → ((j : ℕ) → at m j < 256) → at (field_of m k) i < 256
field_byte m k i h =
    by_test (ltb i (size k))
    (λ t. let b = h (offset k + i) in let e = byte_in m (offset k) (size k) i (ltb-true i (size k) t) in omega arith)
    (λ t. let e = byte_past m (offset k) (size k) i (ltb-false i (size k) t) in omega arith)

-- a field of one byte
field_of_one : (m n : List ℕ) (k : ℕ) → length m ≡ whole_size → length n ≡ whole_size → offset k + size k ≤ whole_size → size k ≡ 1
    → at (field_of m k) 0 ≡ at (field_of n k) 0 → field_of m k ≡ field_of n k
field_of_one m n k a b h z e =
    let x = field_length m k (omega arith) in
    let y = field_length n k (omega arith) in
    one_byte (field_of m k) (field_of n k) (omega arith) (omega arith) e

-- lists of the same length, one behind the other
halves : (a c b d : List ℕ) → length a ≡ length c → a ++ b ≡ c ++ d → (a ≡ c) × (b ≡ d)
halves a c b d h e = (
  sym (take-append_seam a b) ∙ (λ i. take (h i) (e i)) ∙ take-append_seam c d,
  sym (drop-append_seam a b) ∙ (λ i. drop (h i) (e i)) ∙ drop-append_seam c d,
)

pub becomes_unique : BecomesUnique
unfolding facility_at
becomes_unique s m n f a b p q =
    let e = p.0 ∙ sym q.0 in
    let la = a.long in
    let lb = b.long in
    let mac = field_of_one m n the_mac la lb (omega arith) refl (ap (λ (x : Facility). x.mac) e) in
    let fc = field_of_one m n the_fc la lb (omega arith) refl (ap (λ (x : Facility). x.fc) e) in
    let sim = field_of_one m n the_sim la lb (omega arith) refl (ap (λ (x : Facility). x.sim) e) in
    let ff = field_of_one m n the_ff la lb (omega arith) refl (ap (λ (x : Facility). x.ff) e) in
    let users = field_of_one m n the_users la lb (omega arith) refl (ap (λ (x : Facility). x.users) e) in
    let entered = field_of_one m n the_entered la lb (omega arith) refl (ap (λ (x : Facility). x.entered) e) in
    let refusals =
    same_words (field_of m the_refusals) (field_of n the_refusals) (field_length m the_refusals (omega arith)) (field_length n the_refusals (omega arith))
    (λ i. field_byte m the_refusals i a.below) (λ i. field_byte n the_refusals i b.below) (ap (λ (x : Facility). x.refusals) e) in
    let (first, last) = halves (field_of m the_padding) (field_of n the_padding) (field_of m the_last_padding) (field_of n the_last_padding)
    (field_length m the_padding (omega arith) ∙ sym (field_length n the_padding (omega arith))) (p.1 ∙ sym q.1) in
    let t = and_field m n the_mac refl mac in
    let t = and_field m n the_fc t fc in
    let t = and_field m n the_sim t sim in
    let t = and_field m n the_users t users in
    let t = and_field m n the_clearances t (ap (λ (x : Facility). x.clearances) e) in
    let t = and_field m n the_roles t (ap (λ (x : Facility). x.roles) e) in
    let t = and_field m n the_trusts t (ap (λ (x : Facility). x.trusts) e) in
    let t = and_field m n the_entered t entered in
    let t = and_field m n the_lives t (ap (λ (x : Facility). x.lives) e) in
    let t = and_field m n the_kinds t (ap (λ (x : Facility). x.kinds) e) in
    let t = and_field m n the_levels t (ap (λ (x : Facility). x.levels) e) in
    let t = and_field m n the_categories t (ap (λ (x : Facility). x.categories) e) in
    let t = and_field m n the_datatypes t (ap (λ (x : Facility). x.datatypes) e) in
    let t = and_field m n the_runnings t (ap (λ (x : Facility). x.runnings) e) in
    let t = and_field m n the_owners t (ap (λ (x : Facility). x.owners) e) in
    let t = and_field m n the_currents t (ap (λ (x : Facility). x.currents) e) in
    let t = and_field m n the_readmarks t (ap (λ (x : Facility). x.readmarks) e) in
    let t = and_field m n the_writemarks t (ap (λ (x : Facility). x.writemarks) e) in
    let t = and_field m n the_automatics t (ap (λ (x : Facility). x.automatics) e) in
    let t = and_field m n the_opens t (ap (λ (x : Facility). x.opens) e) in
    let t = and_field m n the_padding t first in
    let t = and_field m n the_refusals t refusals in
    let t = and_field m n the_ff t ff in
    let t = and_field m n the_flags t (ap (λ (x : Facility). x.flags) e) in
    let t = and_field m n the_parents t (ap (λ (x : Facility). x.parents) e) in
    let t = and_field m n the_moves t (ap (λ (x : Facility). x.moves) e) in
    let t = and_field m n the_clearancesets t (ap (λ (x : Facility). x.clearancesets) e) in
    let t = and_field m n the_sets t (ap (λ (x : Facility). x.sets) e) in
    let t = and_field m n the_currentsets t (ap (λ (x : Facility). x.currentsets) e) in
    let t = and_field m n the_readsets t (ap (λ (x : Facility). x.readsets) e) in
    let t = and_field m n the_writesets t (ap (λ (x : Facility). x.writesets) e) in
    let t = and_field m n the_last_padding t last in
    sym (take_all whole_size m (omega arith)) ∙ t ∙ take_all whole_size n (omega arith)

-- any opens are put where the opens stand
pub opens_put : (s l : List ℕ) → length s ≡ whole_size → length l ≡ most_opens
    → Becomes s (take (offset the_opens) s ++ (l ++ drop most_opens (drop (offset the_opens) s))) (put_opens (facility_at s) l)
unfolding facility_at put_opens
opens_put s l n e =
    let m = put_back s l (offset the_opens) most_opens (sym e) (omega (arith, n)) in
    let f = field_stored s _ l the_opens (omega (arith, n)) e m in
    (ap (λ (z : ℕ → List ℕ). facility_of z) f, ap padding_in f)

-- the opens are lent, and come back changed
pub opens_lent : (g : List ℕ → List ℕ) (s l : List ℕ) (a k : ℕ) → ((o : List ℕ) → length (g o) ≡ length o) → a ≡ offset the_opens → k ≡ most_opens
    → length s ≡ whole_size → l ≡ g (take k (drop a s)) → Becomes s (take a s ++ (l ++ drop k (drop a s))) (put_opens (facility_at s) (g (facility_at s).opens))
unfolding facility_at put_opens
opens_lent g s l a k kept x y n h =
    let o = field_of s the_opens in
    let e : l ≡ g o = h ∙ (λ i. g (take (y i) (drop (x i) s))) in
    let w : length l ≡ most_opens = ap length e ∙ kept o ∙ field_length s the_opens (omega (arith, n)) in
    let m = put_back s l a k (y ∙ sym w) (omega (arith, x, y, n)) ∙ (λ i. sets s (x i) (e i)) in
    let f = field_stored s _ (g o) the_opens (omega (arith, n)) (sym (ap length e) ∙ w) m in
    (ap (λ (z : ℕ → List ℕ). facility_of z) f, ap padding_in f)

-- the four bytes of a counter are lent, and come back with one more refusal
pub count_lent : (s l : List ℕ) (p k u n a b c d : ℕ) → p ≡ offset the_refusals + 4 * u → k ≡ 4 → length s ≡ whole_size → u < most_users
    → l ≡ a ∷ b ∷ c ∷ d ∷ [] → a + 256 * b + 65536 * c + 16777216 * d ≡ n → n ≡ one_more most_refusals (refusals_of (facility_at s) u)
    → Becomes s (take p s ++ (l ++ drop k (drop p s))) (counted (facility_at s) u)
unfolding facility_at put_refusals counted
count_lent s l p k u n a b c d x e w h f v o =
    let four : length l ≡ 4 = ap length f in
    let m = put_back s l p k (e ∙ sym four) (omega (arith, x, w, h, e)) ∙ ap (λ (i : ℕ). sets s i l) x in
    let g = ap field_of m ∙ bytes_put l s the_refusals (4 * u) (omega (arith, h, four)) in
    let r = words_stored (field_of s the_refusals) u a b c d _ (field_length s the_refusals (omega (arith, w))) h (v ∙ o) in (
      ap (λ (y : ℕ → List ℕ). facility_of y) g
          ∙ ap (λ (y : List ℕ). put_refusals (facility_of (field_of s)) (words (sets (field_of s the_refusals) (4 * u) y))) f
          ∙ ap (λ (y : List ℕ). put_refusals (facility_of (field_of s)) (words y)) (four_sets (field_of s the_refusals) (4 * u) a b c d)
          ∙ ap (put_refusals (facility_of (field_of s))) r,
      ap padding_in g,
    )
