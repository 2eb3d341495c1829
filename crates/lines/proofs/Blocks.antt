-- The lines of all blocks, one after the other, are the output of document 01.
use Prim.Native.Nat.{ℕ, ◌+◌, ◌*◌, ◌/◌, ◌%◌, ◌≤◌, ◌<◌, suc}
use mathlib.Core.Path.{◌≡◌, refl, ap, sym, ◌∙◌, subst, subst₂}
use mathlib.Core.List.{List, ◌++◌, [], ◌∷◌, append_assoc, append-nil}
use mathlib.Core.Bool.{cond}
use lib.ListN.{length, drop, length-append}
use lib.Dec.{eqb}
use native.Mathlib.Omega.{arith}
use borrow.Author.Tests.{le-ltb, lt-ltb, eq-eqb, ne_eqb}
use Rattle.state.specs.declared.Facility.{Facility}
use Rattle.rules.specs.Histories.{run}
use Rattle.rules.specs.Calls.{after, query}
use Rattle.rules.specs.Lines.{calls_of, call_lines, call_line, short_line}
use Rattle.history.specs.CallBytes.{call_from}
use Rattle.history.specs.Laws.CallBytes.{calls_joined, calls_more, no_calls, run_more, run_done}
use Rattle.text.specs.declared.Out.{Out}
use Rattle.text.specs.Stored.{Put}
use Rattle.text.specs.Laws.Puts.{◌▹◌, put_as}
use Rattle.state.specs.declared.Call.{Call}
use Rattle.answers.specs.declared.Outcome.{Outcome}
use Rattle.lines.specs.Texts.{line_text}
use Rattle.lines.proofs.Texts.{line_is}
use Rattle.labels.specs.Decisions.{at}
use Rattle.state.specs.declared.Process.{Process}
use Rattle.state.specs.State.{process_in, process_of}
use Rattle.lines.specs.Blocks.{lines_of, facility_after, WholeByBlocks}
use Rattle.rules.specs.Text.{ascii}
use Rattle.labels.proofs.Laws.Decisions.{by_eq}

-- What is stored when the calls before byte i are printed: their lines, behind which those that are left make the whole.
pub record Left (a : Out) (first : ℕ) (f₀ : Facility) (calls : List ℕ) (b : Out) (index : ℕ) (f : Facility) (i : ℕ) : Type 0 where
  pub told : List ℕ
  pub stored : Put a told b
  pub rest : told ++ call_lines index f (calls_of (drop i calls)) ≡ call_lines first f₀ (calls_of calls)
  pub facility : run f (calls_of (drop i calls)) ≡ run f₀ (calls_of calls)
  pub most : length told ≤ 49 * (i / 4)
  pub whole : i % 4 ≡ 0

lines_more : (index : ℕ) (f : Facility) (l : List ℕ) (i : ℕ) → i + 4 ≤ length l
    → call_lines index f (calls_of (drop i l)) ≡ call_line index f (call_from l i)
    ++ call_lines (index + 1) (after f (call_from l i)) (calls_of (drop (i + 4) l))
unfolding call_lines
lines_more index f l i h = ap (call_lines index f) (calls_more l i h)

lines_none : (index : ℕ) (f : Facility) (l : List ℕ) (i : ℕ) → length l < i + 4 → call_lines index f (calls_of (drop i l)) ≡ []
unfolding call_lines
lines_none index f l i h = ap (call_lines index f) (no_calls l i h)

pub left_more : (a : Out) (first : ℕ) (f₀ : Facility) (calls : List ℕ) (b : Out) (index : ℕ) (f : Facility) (i : ℕ) (d : Out)
    → Left a first f₀ calls b index f i → i + 4 ≤ length calls
    → Put b (call_line index f (call_from calls i)) d → length (call_line index f (call_from calls i)) ≤ 49
    → Left a first f₀ calls d (index + 1) (after f (call_from calls i)) (i + 4)
left_more a first f₀ calls b index f i d l h s n =
    let c = call_from calls i in
    let line = call_line index f c in
    let rest = call_lines (index + 1) (after f c) (calls_of (drop (i + 4) calls)) in
    let told = l.told in
    let size = length-append told line in
    let z = l.most in
    let w = l.whole in
    record {
      told = told ++ line;
      stored = l.stored ▹ s;
      rest = append_assoc told line rest ∙ ap (λ (x : List ℕ). told ++ x) (sym (lines_more index f calls i h)) ∙ l.rest;
      facility = sym (run_more f calls i h) ∙ l.facility;
      most = omega arith;
      whole = omega arith;
    }

-- and from what the code has at hand: the call, what it came to, the facility after it, and its line
pub left_goes_on : (a : Out) (first : ℕ) (f₀ : Facility) (calls : List ℕ) (b : Out) (index : ℕ) (f : Facility) (i : ℕ) (d : Out)
    (c : Call) (o : Outcome) (g : Facility) (running level : ℕ)
    → Left a first f₀ calls b index f i → i + 4 ≤ length calls → c ≡ call_from calls i → o ≡ query f c → g ≡ after f c
    → running ≡ at g.runnings c.process → level ≡ at g.currents c.process
    → Put b (line_text index c o running level) d → length (line_text index c o running level) ≤ 49
    → Left a first f₀ calls d (index + 1) g (i + 4)
left_goes_on a first f₀ calls b index f i d c o g running level l h k q e u v s n =
    let t : line_text index c o running level ≡ call_line index f (call_from calls i) =
    ap (λ (x : ℕ). line_text index c o x level) u ∙ ap (λ (x : ℕ). line_text index c o (at g.runnings c.process) x) v
    ∙ ap (λ (x : Outcome). line_text index c x (at g.runnings c.process) (at g.currents c.process)) q
    ∙ ap (λ (x : Facility). line_text index c (query f c) (at x.runnings c.process) (at x.currents c.process)) e
    ∙ line_is index f c ∙ ap (call_line index f) k in
    let w : after f (call_from calls i) ≡ g = sym (e ∙ ap (after f) k) in
    subst (λ (x : Facility). Left a first f₀ calls d (index + 1) x (i + 4)) w
    (left_more a first f₀ calls b index f i d l h (put_as t s) (subst (λ (x : List ℕ). length x ≤ 49) t n))

-- the same by the number k of the call
pub left_next : (a : Out) (first : ℕ) (f₀ : Facility) (calls : List ℕ) (b : Out) (f : Facility) (k : ℕ) (d : Out)
    (c : Call) (o : Outcome) (g : Facility) (running level : ℕ)
    → Left a first f₀ calls b (first + k) f (4 * k) → k < length calls / 4 → c ≡ call_from calls (4 * k) → o ≡ query f c → g ≡ after f c
    → running ≡ at g.runnings c.process → level ≡ at g.currents c.process
    → Put b (line_text (first + k) c o running level) d → length (line_text (first + k) c o running level) ≤ 49
    → Left a first f₀ calls d (first + (k + 1)) g (4 * (k + 1))
left_next a first f₀ calls b f k d c o g running level l h r q e u v s n =
    let t : 4 * k + 4 ≤ length calls = omega arith in
    let i : 4 * k + 4 ≡ 4 * (k + 1) = omega arith in
    let x : first + k + 1 ≡ first + (k + 1) = omega arith in
    subst₂ (λ (m j : ℕ). Left a first f₀ calls d m g j) x i
    (left_goes_on a first f₀ calls b (first + k) f (4 * k) d c o g running level l t r q e u v s n)

-- the bytes of a process that is read off a facility
pub process_bytes_law : (r : Process) (f : Facility) (p : ℕ) → r ≡ process_of f p → (r.running ≡ at f.runnings p) × (r.current.level ≡ at f.currents p)
unfolding process_in
process_bytes_law r f p e = (ap (λ (x : Process). x.running) e, ap (λ (x : Process). x.current.level) e)

-- What a function that prints a block answers and leaves.
pub record Block (a : Out) (first : ℕ) (f : Facility) (calls : List ℕ) (b : Out) (g : Facility) : Type 0 where
  pub stored : Put a (lines_of first f calls) b
  pub facility : g ≡ facility_after first f calls
  pub most : length (lines_of first f calls) ≤ 49 * (length calls / 4)

pub block_none : (a b : Out) (first : ℕ) (f : Facility) (calls : List ℕ) → Put a [] b → 9223372036854775808 ≤ first → Block a first f calls b f
unfolding lines_of facility_after
block_none a b first f calls p h =
    let t = le-ltb first 9223372036854775808 h in
    record { stored = rw t p; facility = rw t; most = rw (t, length) (omega arith) }

pub block_done : (a : Out) (first : ℕ) (f : Facility) (calls : List ℕ) (b : Out) (index : ℕ) (g : Facility) (i : ℕ)
    → first < 9223372036854775808 → Left a first f calls b index g i → i ≤ length calls → length calls < i + 4
    → Block a first f calls b g
unfolding lines_of facility_after
block_done a first f calls b index g i n l k h =
    let t = lt-ltb first 9223372036854775808 n in
    let e : l.told ≡ call_lines first f (calls_of calls) =
    sym (append-nil l.told) ∙ ap (λ (x : List ℕ). l.told ++ x) (sym (lines_none index g calls i h)) ∙ l.rest in
    let size = ap length e in
    let z = l.most in
    let w = l.whole in
    record {
      stored = rw t (put_as e l.stored);
      facility = rw t (sym (run_done g calls i h) ∙ l.facility);
      most = rw t (omega arith);
    }

-- `short` is six bytes or none
pub not_short : (calls : List ℕ) → length calls % 4 ≡ 0 → [] ≡ short_line calls
unfolding short_line
not_short calls h = rw (eq-eqb (length calls % 4) 0 h)

pub is_short : (calls : List ℕ) → (length calls % 4 ≡ 0 → ⊥) → ascii "short\n" ≡ short_line calls
unfolding short_line
is_short calls h = rw (ne_eqb (length calls % 4) 0 h)

pub short_most : (calls : List ℕ) → length (short_line calls) ≤ 6
short_most calls =
    by_eq (length calls % 4) 0
    (λ e. let d = ap length (not_short calls e) in omega arith)
    (λ n. let d = ap length (is_short calls n) in omega arith)

calls_count : (a : List ℕ) → length a % 4 ≡ 0 → length (calls_of a) ≡ length a / 4
unfolding calls_of
calls_count [] h = refl
calls_count (w ∷ []) h = absurd (omega arith)
calls_count (w ∷ x ∷ []) h = absurd (omega arith)
calls_count (w ∷ x ∷ y ∷ []) h = absurd (omega arith)
calls_count (w ∷ x ∷ y ∷ z ∷ a) h =
    let k : length a % 4 ≡ 0 = omega arith in
    let e = calls_count a k in
    omega arith

lines_joined : (i : ℕ) (f : Facility) (cs ds : List Call) → call_lines i f (cs ++ ds) ≡ call_lines i f cs ++ call_lines (i + length cs) (run f cs) ds
unfolding call_lines run
lines_joined i f [] ds = let e : i ≡ i + 0 = omega arith in ap (λ (k : ℕ). call_lines k f ds) e
lines_joined i f (c ∷ cs) ds =
    let e : i + 1 + length cs ≡ i + suc (length cs) = omega arith in
    ap (λ (x : List ℕ). call_line i f c ++ x) (lines_joined (i + 1) (after f c) cs ds
    ∙ ap (λ (k : ℕ). call_lines (i + 1) (after f c) cs ++ call_lines k (run (after f c) cs) ds) e)
    ∙ sym (append_assoc (call_line i f c) (call_lines (i + 1) (after f c) cs) (call_lines (i + suc (length cs)) (run (after f c) cs) ds))

pub whole_by_blocks : WholeByBlocks
unfolding short_line
whole_by_blocks i f a b h =
    let n = length-append a b in
    let m : length (a ++ b) % 4 ≡ length b % 4 = omega arith in
    let s = ap (λ (k : ℕ). cond (eqb k 0) [] (ascii "short\n")) m in
    let t : call_lines i f (calls_of a) ++ short_line a ≡ call_lines i f (calls_of a)
    = ap (λ (x : List ℕ). call_lines i f (calls_of a) ++ x) (sym (not_short a h))
    ∙ append-nil (call_lines i f (calls_of a)) in
    let first = call_lines i f (calls_of a) in
    let rest = call_lines (i + length a / 4) (run f (calls_of a)) (calls_of b) in
    ap (λ (x : List ℕ). call_lines i f (calls_of (a ++ b)) ++ x) s
    ∙ ap (λ (x : List ℕ). x ++ short_line b) (ap (call_lines i f) (calls_joined a b h) ∙ lines_joined i f (calls_of a) (calls_of b)
    ∙ ap (λ (k : ℕ). first ++ call_lines (i + k) (run f (calls_of a)) (calls_of b)) (calls_count a h))
    ∙ append_assoc first rest (short_line b)
    ∙ ap (λ (x : List ℕ). x ++ (rest ++ short_line b)) (sym t)
