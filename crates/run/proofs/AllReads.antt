-- No byte is lost between reads, and the texts of the blocks, one after the other, are the output of document 01.
use Rattle.answers.specs.Outcomes.{setup_accepted}
use Rattle.answers.specs.Outcomes.{SetupOutcome}
use Prim.Native.Nat.{ℕ, zero, suc, ◌+◌, ◌-◌, ◌/◌, ◌%◌, ◌≤◌, ◌<◌}
use mathlib.Core.Bool.{Bool, true, false, cond}
use mathlib.Core.Path.{◌≡◌, refl, ap, sym, ◌∙◌}
use mathlib.Core.List.{List, [], ◌∷◌, ◌++◌, append_assoc, append-nil, append_cancel_right}
use lib.Dec.{eqb}
use lib.ListN.{length, take, drop, length-append, length-drop}
use lib.Seq.{take-add, length-take-le, get_or-drop}
use native.Mathlib.Omega.{arith}
use borrow.Author.Tests.{lt-ltb, ltb-true}
use Rattle.labels.specs.Decisions.{at}
use Rattle.state.specs.declared.Facility.{Facility}
use Rattle.rules.specs.Histories.{run}
use Rattle.rules.specs.Lines.{call_lines, calls_of, printed, short_line}
use Rattle.rules.specs.Setup.{read_setup}
use Rattle.rules.specs.Text.{ascii}
use Rattle.history.specs.Laws.CallBytes.{no_calls}
use Rattle.lines.specs.Blocks.{block_text, facility_after, lines_of}
use Rattle.lines.proofs.Blocks.{not_short, whole_by_blocks}
use Rattle.console.specs.declared.Kept.{Kept}
use Rattle.console.specs.declared.Input.{Input}
use Rattle.console.specs.Files.{CallsRead, bytes_said, failure_said, kept_bytes, kept_from, kept_in, more_said, nothing_kept, whole_calls}
use Rattle.console.proofs.Front.{all_in, kept_most}
use Rattle.console.proofs.Said.{failed_no_more, failed_none, more_no_failure}
use Rattle.run.specs.AllReads.{NoByteLost, Read, Reads, WholeOutput, all_brought, all_lined, brought, few_calls, last, lined, next, text_of, texts}

-- ---- one read

-- the bytes between two places, at most three, stand behind those before the first
first_three : (l : List ℕ) (n : ℕ) → n ≤ 3 → n ≤ length l → take n (at l 0 ∷ at l 1 ∷ at l 2 ∷ []) ≡ take n l
first_three l zero h j = refl
first_three [] (suc n) h j = absurd (omega arith)
first_three (x ∷ l) (suc zero) h j = refl
first_three (x ∷ []) (suc (suc n)) h j = absurd (omega arith)
first_three (x ∷ y ∷ l) (suc (suc zero)) h j = refl
first_three (x ∷ y ∷ []) (suc (suc (suc n))) h j = absurd (omega arith)
first_three (x ∷ y ∷ z ∷ l) (suc (suc (suc zero))) h j = refl
first_three (x ∷ y ∷ z ∷ l) (suc (suc (suc (suc n)))) h j = absurd (omega arith)

kept_behind : (l : List ℕ) (from to : ℕ) → from ≤ to → to ≤ from + 3 → to ≤ length l → take from l ++ kept_bytes (kept_from l from to) ≡ take to l
unfolding kept_bytes
kept_behind l from to h j b =
    let n = to - from in
    let d = length-drop from l in
    let z : from + 0 ≡ from = omega arith in
    let t : from + n ≡ to = omega arith in
    let first : at l from ≡ at (drop from l) 0 = ap (at l) (sym z) ∙ sym (get_or-drop from l 0 0) in
    let e : take n (at l from ∷ at l (from + 1) ∷ at l (from + 2) ∷ []) ≡ take n (drop from l) =
    (λ i. take n (first i ∷ sym (get_or-drop from l 1 0) i ∷ sym (get_or-drop from l 2 0) i ∷ [])) ∙ first_three (drop from l) n (omega arith) (omega arith) in
    ap (λ (x : List ℕ). take from l ++ x) e ∙ sym (take-add from n l) ∙ ap (λ (x : ℕ). take x l) t

-- what is lined of n bytes
lined_most : (n : ℕ) (more : Bool) → (whole_calls n more ≤ n) × (n ≤ whole_calls n more + 3)
lined_most n true = (omega arith, omega arith)
lined_most n false = (omega arith, omega arith)

-- What is told of a read, one by one.
record Told (k : Kept) (r : Read) : Type 0 where
  whole : r.input.more ≡ true → (length (lined r) % 4 ≡ 0) × (r.input.failed ≡ false)
  ended : r.input.more ≡ false → kept_bytes r.input.kept ≡ []
  few : r.input.failed ≡ true → (length (lined r) < 4) × (r.input.more ≡ false)
  counted : length (lined r) ≡ r.input.lined
  joined : lined r ++ kept_bytes r.input.kept ≡ kept_bytes k ++ brought k r

no_bytes : (l : List ℕ) (n : ℕ) → kept_bytes (kept_from l n n) ≡ []
unfolding kept_bytes
no_bytes l n = let e : n - n ≡ 0 = omega arith in rw e

-- a read that failed leaves less than a call, and ends the input
pub few_lined : (k : Kept) (b : List ℕ) (i : Input) → CallsRead k b i → i.failed ≡ true → (i.lined < 4) × (i.more ≡ false)
few_lined k b i c h =
    let n = length (kept_in k b) + bytes_said i.said in
    let f : failure_said i.said ≡ true = sym (ap (λ (x : Input). x.failed) c.told) ∙ h in
    let m = failed_no_more i.said f in
    let q : i.lined ≡ n = ap (λ (x : Input). x.lined) c.told ∙ ap (whole_calls n) m in
    let z = failed_none i.said f in
    let k3 = kept_most k b in
    (omega arith, ap (λ (x : Input). x.more) c.told ∙ m)

told_of : (k : Kept) (r : Read) → CallsRead k r.bytes r.input → 4 ≤ length r.bytes → Told k r
told_of k r c room =
    let i = r.input in
    let b = r.bytes in
    let new = bytes_said i.said in
    let n = length (kept_in k b) + new in
    let w = c.within in
    let m : i.more ≡ more_said i.said = ap (λ (x : Input). x.more) c.told in
    let f : i.failed ≡ failure_said i.said = ap (λ (x : Input). x.failed) c.told in
    let l : i.lined ≡ whole_calls n (more_said i.said) = ap (λ (x : Input). x.lined) c.told in
    let a = lined_most n (more_said i.said) in
    let kept : i.kept ≡ kept_from b i.lined n = ap (λ (x : Input). x.kept) c.told ∙ ap (λ (x : ℕ). kept_from b x n) (sym l) in
    let e = all_in k b room in
    let count : length (lined r) ≡ i.lined = length-take-le i.lined b (omega arith) in
    record {
      whole = λ h. let q = l ∙ ap (whole_calls n) (sym m ∙ h) in (omega arith, f ∙ more_no_failure i.said (sym m ∙ h));
      ended = λ h. let q = l ∙ ap (whole_calls n) (sym m ∙ h) in ap kept_bytes (kept ∙ ap (λ (x : ℕ). kept_from b x n) q) ∙ no_bytes b n;
      few = λ h. let q = few_lined k b i c h in (omega arith, q.1);
      counted = count;
      joined = ap (λ (x : Kept). lined r ++ kept_bytes x) kept ∙ kept_behind b i.lined n (omega arith) (omega arith) w
          ∙ take-add (length (kept_in k b)) new b ∙ ap (λ (x : List ℕ). x ++ take new (drop (length (kept_in k b)) b)) c.begins
          ∙ ap (λ (x : List ℕ). x ++ take new (drop (length x) b)) e;
    }

-- ---- all reads

all_joined : {k : Kept} {rs : List Read} {i : Input} → Reads k rs i → all_lined rs ++ kept_bytes i.kept ≡ kept_bytes k ++ all_brought k rs
unfolding all_lined all_brought
all_joined {k} (last {r = r} c room) =
    ap (λ (x : List ℕ). x ++ kept_bytes r.input.kept) (append-nil (lined r)) ∙ (told_of k r c room).joined
    ∙ ap (λ (x : List ℕ). kept_bytes k ++ x) (sym (append-nil (brought k r)))
all_joined {k} {i = i} (next {r = r} {rs = rs} c room m s) =
    append_assoc (lined r) (all_lined rs) (kept_bytes i.kept)
    ∙ ap (λ (x : List ℕ). lined r ++ x) (all_joined s)
    ∙ sym (append_assoc (lined r) (kept_bytes r.input.kept) (all_brought r.input.kept rs))
    ∙ ap (λ (x : List ℕ). x ++ all_brought r.input.kept rs) (told_of k r c room).joined
    ∙ append_assoc (kept_bytes k) (brought k r) (all_brought r.input.kept rs)

none_kept : {k : Kept} {rs : List Read} {i : Input} → Reads k rs i → i.more ≡ false → kept_bytes i.kept ≡ []
none_kept {k} (last {r = r} c room) h = (told_of k r c room).ended h
none_kept (next c room m s) h = none_kept s h

failed_last : {k : Kept} {rs : List Read} {i : Input} → Reads k rs i → i.failed ≡ true → i.more ≡ false
failed_last {k} (last {r = r} c room) h = ((told_of k r c room).few h).1
failed_last (next c room m s) h = failed_last s h

nothing : kept_bytes nothing_kept ≡ []
unfolding kept_bytes
nothing = refl

pub no_byte_lost : NoByteLost
no_byte_lost =
    let so_far : (rs : List Read) (i : Input) → Reads nothing_kept rs i → all_lined rs ++ kept_bytes i.kept ≡ all_brought nothing_kept rs =
    λ rs i s. all_joined s ∙ ap (λ (x : List ℕ). x ++ all_brought nothing_kept rs) nothing in
    record {
      so_far = so_far;
      ended = λ rs i s h. sym (append-nil (all_lined rs)) ∙ ap (λ (x : List ℕ). all_lined rs ++ x) (sym (none_kept s h)) ∙ so_far rs i s;
    }

-- ---- what is written

short_behind : (a b : List ℕ) → length a % 4 ≡ 0 → short_line (a ++ b) ≡ short_line b
unfolding short_line
short_behind a b h =
    let n = length-append a b in
    let m : length (a ++ b) % 4 ≡ length b % 4 = omega arith in
    ap (λ (k : ℕ). cond (eqb k 0) [] (ascii "short\n")) m

-- the lines of whole calls and those of the calls behind them, without `short`
lines_joined : (i : ℕ) (f : Facility) (a b : List ℕ) → length a % 4 ≡ 0
    → call_lines i f (calls_of (a ++ b)) ≡ call_lines i f (calls_of a) ++ call_lines (i + length a / 4) (run f (calls_of a)) (calls_of b)
lines_joined i f a b h =
    let front = call_lines i f (calls_of a) in
    let rest = call_lines (i + length a / 4) (run f (calls_of a)) (calls_of b) in
    append_cancel_right (call_lines i f (calls_of (a ++ b))) (front ++ rest) (short_line b)
    (ap (λ (x : List ℕ). call_lines i f (calls_of (a ++ b)) ++ x) (sym (short_behind a b h)) ∙ whole_by_blocks i f a b h
    ∙ ap (λ (x : List ℕ). (front ++ x) ++ (rest ++ short_line b)) (sym (not_short a h))
    ∙ ap (λ (x : List ℕ). x ++ (rest ++ short_line b)) (append-nil front)
    ∙ sym (append_assoc front rest (short_line b)))

-- the text of a read that did not fail, and the facility after it, where the indices fit
block_is : (done : ℕ) (f : Facility) (calls : List ℕ) → done + 1 < 9223372036854775808
    → (block_text (done + 1) f calls ≡ call_lines (done + 1) f (calls_of calls) ++ short_line calls)
    × (facility_after (done + 1) f calls ≡ run f (calls_of calls))
unfolding lines_of facility_after
block_is done f calls h = let t = lt-ltb (done + 1) 9223372036854775808 h in (rw t, rw t)

-- less than a call has no line
no_lines : (i : ℕ) (f : Facility) (calls : List ℕ) → length calls < 4 → call_lines i f (calls_of calls) ≡ []
unfolding call_lines
no_lines i f calls h = ap (call_lines i f) (no_calls calls 0 (omega arith))

text_is : (done : ℕ) (f : Facility) (calls : List ℕ) (failed : Bool) → (failed ≡ true → length calls < 4) → done + 1 < 9223372036854775808
    → cond failed [] (block_text (done + 1) f calls) ≡ call_lines (done + 1) f (calls_of calls) ++ cond failed [] (short_line calls)
text_is done f calls true few h = sym (append-nil (call_lines (done + 1) f (calls_of calls)) ∙ no_lines (done + 1) f calls (few refl))
text_is done f calls false few h = (block_is done f calls h).0

-- the texts are the lines of all calls that are lined, and `short`, but not behind a failure
texts_are : {k : Kept} {rs : List Read} {i : Input} (done : ℕ) (f : Facility) → Reads k rs i → i.more ≡ false
    → done + length (all_lined rs) / 4 + 1 < 9223372036854775808
    → texts done f rs ≡ call_lines (done + 1) f (calls_of (all_lined rs)) ++ cond i.failed [] (short_line (all_lined rs))
unfolding texts all_lined
texts_are {k} done f (last {r = r} c room) m h =
    append-nil (text_of done f r) ∙ text_is done f (lined r) r.input.failed (λ e. ((told_of k r c room).few e).0) (omega arith)
    ∙ ap (λ (x : List ℕ). call_lines (done + 1) f (calls_of x) ++ cond r.input.failed [] (short_line x)) (sym (append-nil (lined r)))
texts_are {k} {i = i} done f (next {r = r} {rs = rs} c room n s) m h =
    let t = told_of k r c room in
    let a = lined r in
    let b = all_lined rs in
    let w = (t.whole n).0 in
    let j = t.counted in
    let d = length-append a b in
    let front = call_lines (done + 1) f (calls_of a) in
    let short : List ℕ → List ℕ = λ x. cond i.failed [] (short_line x) in
    let e : done + r.input.lined / 4 + 1 ≡ done + 1 + length a / 4 = omega arith in
    let first : text_of done f r ≡ front =
    ap (λ (x : Bool). cond x [] (block_text (done + 1) f a)) (t.whole n).1 ∙ (block_is done f a (omega arith)).0
    ∙ ap (λ (x : List ℕ). front ++ x) (sym (not_short a w)) ∙ append-nil front in
    let g = (block_is done f a (omega arith)).1 in
    let rest = call_lines (done + 1 + length a / 4) (run f (calls_of a)) (calls_of b) in
    let later : texts (done + r.input.lined / 4) (facility_after (done + 1) f a) rs ≡ rest ++ short b =
    texts_are (done + r.input.lined / 4) (facility_after (done + 1) f a) s m (omega arith)
    ∙ ap (λ (x : ℕ). call_lines x (facility_after (done + 1) f a) (calls_of b) ++ short b) e
    ∙ ap (λ (x : Facility). call_lines (done + 1 + length a / 4) x (calls_of b) ++ short b) g in
    ap (λ (x : List ℕ). x ++ texts (done + r.input.lined / 4) (facility_after (done + 1) f a) rs) first
    ∙ ap (λ (x : List ℕ). front ++ x) later ∙ sym (append_assoc front rest (short b))
    ∙ ap (λ (x : List ℕ). x ++ short b) (sym (lines_joined (done + 1) f a b w))
    ∙ ap (λ (x : List ℕ). call_lines (done + 1) f (calls_of (a ++ b)) ++ cond i.failed [] x) (sym (short_behind a b w))

-- of all that was brought
all_texts : (f : Facility) (rs : List Read) (i : Input) → Reads nothing_kept rs i → i.more ≡ false → few_calls (all_brought nothing_kept rs)
    → texts 0 f rs ≡ call_lines 1 f (calls_of (all_brought nothing_kept rs)) ++ cond i.failed [] (short_line (all_brought nothing_kept rs))
all_texts f rs i s m h =
    let e = no_byte_lost.ended rs i s m in
    let n = ap length e in
    let b = ltb-true (length (all_brought nothing_kept rs) / 4 + 1) 9223372036854775808 h in
    texts_are 0 f s m (omega arith) ∙ ap (λ (x : List ℕ). call_lines 1 f (calls_of x) ++ cond i.failed [] (short_line x)) e

accepted : (o : SetupOutcome) (f : Facility) (calls : List ℕ) → o ≡ setup_accepted → call_lines 1 f (calls_of calls) ++ short_line calls ≡ printed o f calls
unfolding printed
accepted o f calls e = ap (λ (x : SetupOutcome). printed x f calls) (sym e)

pub whole_output : WholeOutput
whole_output =
    record {
      ended = λ setup rs i s m g o h. let f = (read_setup setup).facility in let all = all_brought nothing_kept rs in
          all_texts f rs i s m h ∙ ap (λ (x : Bool). call_lines 1 f (calls_of all) ++ cond x [] (short_line all)) g
          ∙ accepted (read_setup setup).outcome f all o;
      failed = λ f rs i s g h. let all = all_brought nothing_kept rs in
          all_texts f rs i s (failed_last s g) h ∙ ap (λ (x : Bool). call_lines 1 f (calls_of all) ++ cond x [] (short_line all)) g
          ∙ append-nil (call_lines 1 f (calls_of all));
    }
