-- Effective flags without a bound, and where each flag comes from.
use Rattle.std.specs.Prelude.{ℕ, zero, suc, ◌-◌, ◌≤◌, ◌<◌, ◌≡◌, refl, ◌≢◌, Bool, true, false, cond, leb, ltb}
use Rattle.std.proofs.Math.Path.{sym}
use Rattle.std.proofs.Common.{◌∙◌, ap, arith, ltb-true, leb-true, ne_eqb}
use Rattle.std.proofs.Math.Bool.{not}
use Rattle.std.specs.Int.Bits.{bit_or, bit_and, or_zero_l, or_zero_r, and_zero_l}
use Rattle.std.proofs.lemmas.Nat.{and_comm}
use Rattle.std.proofs.Math.Dec.{eqb}
use Rattle.labels.specs.Decisions.{◌and◌, ◌or◌, at}
use Rattle.labels.proofs.Laws.Decisions.{and_l, and_r, clash, by_test, by_eq}
use Rattle.std.proofs.lemmas.Nat.{and_assoc}
use Rattle.labels.proofs.Laws.Bits.{and_or, or_none_l}
use Rattle.opens.specs.Opens.{most_objects}
use Rattle.answers.specs.Outcomes.{no_object}
use Rattle.state.specs.State.{Objects}
use Rattle.rules.specs.Requests.{Class, alters}
use Rattle.rules.specs.FileFlags.{read_only, no_execute, no_delete, search_only, forbidding, forbids}
use Rattle.rules.specs.FileFlags.{has, without_no_delete, flags_of, parent_of, has_parent, inherits, effective_in, effective, source_in, flag_source}

-- a parent that is inherited from is earlier
pub parent_before : (x : Objects) (t : ℕ) → has_parent x t ≡ true → parent_of x t - 1 < t
unfolding has_parent
parent_before x t h =
    let a = ltb-true 0 (parent_of x t) (and_l _ _ h) in
    let b = leb-true (parent_of x t) t (and_l _ _ (and_r _ _ h)) in
    omega arith

pub parent_some : (x : Objects) (t : ℕ) → has_parent x t ≡ true → parent_of x t ≢ 0
unfolding has_parent
parent_some x t h z = let a = ltb-true 0 (parent_of x t) (and_l _ _ h) in absurd (omega arith)

pub inheriting : (x : Objects) (t : ℕ) → inherits x t ≡ true → has_parent x t ≡ true
unfolding inherits
inheriting x t i = and_r _ _ i

pub giver_before : (x : Objects) (t : ℕ) → inherits x t ≡ true → parent_of x t - 1 < t
giver_before x t i = parent_before x t (inheriting x t i)

first_alone : (x : Objects) (t : ℕ) → t ≡ 0 → inherits x t ≡ false
first_alone x t e = by_test (inherits x t) (λ i. let b = giver_before x t i in absurd (omega arith)) (λ i. i)

-- any bound from t on gives the same
any_bound : (n m : ℕ) (x : Objects) (t : ℕ) → t ≤ n → t ≤ m → effective_in n x t ≡ effective_in m x t
unfolding effective_in
any_bound zero zero x t h k = refl
any_bound zero (suc m) x t h k = let e : t ≡ 0 = omega arith in rw (first_alone x t e) (sym (or_zero_r _))
any_bound (suc n) zero x t h k = let e : t ≡ 0 = omega arith in rw (first_alone x t e) (or_zero_r _)
any_bound (suc n) (suc m) x t h k =
    by_test (inherits x t)
    (λ i.
    let b = giver_before x t i in
    rw i (ap (λ (v : ℕ). bit_or (flags_of x t) (without_no_delete v)) (any_bound n m x (parent_of x t - 1) (omega arith) (omega arith))))
    (λ i. rw i)

effective_more : (x : Objects) (t : ℕ)
    → effective_in (suc t) x t ≡ bit_or (flags_of x t) (cond (inherits x t) (without_no_delete (effective x (parent_of x t - 1))) 0)
unfolding effective_in
effective_more x t =
    by_test (inherits x t)
    (λ i.
    let b = giver_before x t i in
    rw i (ap (λ (v : ℕ). bit_or (flags_of x t) (without_no_delete v)) (any_bound t (parent_of x t - 1) x (parent_of x t - 1) (omega arith) (omega arith))))
    (λ i. rw i)

pub effective_is : (x : Objects) (t : ℕ)
    → effective x t ≡ bit_or (flags_of x t) (cond (inherits x t) (without_no_delete (effective x (parent_of x t - 1))) 0)
effective_is x t = any_bound t (suc t) x t (omega arith) (omega arith) ∙ effective_more x t

-- they are told by the objects up to t
parent_told : (x y : Objects) (t : ℕ) → parent_of y t ≡ parent_of x t
    → (parent_of x t - 1 < t → at y.lives (parent_of x t - 1) ≡ at x.lives (parent_of x t - 1))
    → has_parent y t ≡ has_parent x t
unfolding has_parent ◌and◌
parent_told x y t e l =
    rw e (by_test (ltb 0 (parent_of x t))
    (λ a. by_test (leb (parent_of x t) t)
    (λ b. let p = ltb-true 0 (parent_of x t) a in let q = leb-true (parent_of x t) t b in rw (a, b, l (omega arith)))
    (λ b. rw (a, b)))
    (λ a. rw a))

inherits_told : (x y : Objects) (t : ℕ) → flags_of y t ≡ flags_of x t → parent_of y t ≡ parent_of x t
    → (parent_of x t - 1 < t → at y.lives (parent_of x t - 1) ≡ at x.lives (parent_of x t - 1)) → inherits y t ≡ inherits x t
unfolding inherits
inherits_told x y t d e l = rw (d, parent_told x y t e l)

told_below : (n b : ℕ) (x y : Objects) → ((t : ℕ) → t < b → flags_of y t ≡ flags_of x t) → ((t : ℕ) → t < b → parent_of y t ≡ parent_of x t)
    → ((t : ℕ) → t < b → at y.lives t ≡ at x.lives t) → (t : ℕ) → t < b → effective_in n y t ≡ effective_in n x t
unfolding effective_in
told_below zero b x y fs ps ls t h = fs t h
told_below (suc n) b x y fs ps ls t h =
    rw (fs t h, inherits_told x y t (fs t h) (ps t h) (λ c. ls (parent_of x t - 1) (omega arith)), ps t h)
    (by_test (inherits x t)
    (λ i.
    let c = giver_before x t i in
    rw i (ap (λ (v : ℕ). bit_or (flags_of x t) (without_no_delete v)) (told_below n b x y fs ps ls (parent_of x t - 1) (omega arith))))
    (λ i. rw i))

pub effective_told : (b : ℕ) (x y : Objects) → ((t : ℕ) → t < b → flags_of y t ≡ flags_of x t) → ((t : ℕ) → t < b → parent_of y t ≡ parent_of x t)
    → ((t : ℕ) → t < b → at y.lives t ≡ at x.lives t) → (t : ℕ) → t < b → effective y t ≡ effective x t
effective_told b x y fs ps ls t h = told_below t b x y fs ps ls t h

-- a flag is among a union where it is among either, and none is among nothing
has_or : (m a b : ℕ) → has m (bit_or a b) ≡ (has m a or has m b)
unfolding has ◌or◌
has_or m a b =
    rw (and_or a b m)
    (by_eq (bit_and a m) 0
    (λ e. rw (e, or_zero_l (bit_and b m)))
    (λ n. rw (ne_eqb (bit_and a m) 0 n, ne_eqb (bit_or (bit_and a m) (bit_and b m)) 0 (λ z. n (or_none_l _ _ z)))))

has_none : (m : ℕ) → has m 0 ≡ false
unfolding has
has_none m = refl

-- no-delete may be left out of either
has_without : (m v : ℕ) → has m (without_no_delete v) ≡ has (without_no_delete m) v
unfolding has
has_without m v = ap (λ (n : ℕ). not (eqb n 0)) (and_assoc m v 251 ∙ ap (bit_and v) (and_comm 251 m))

has_more : (m v : ℕ) → has (without_no_delete m) v ≡ true → has m v ≡ true
unfolding has
has_more m v h =
    by_eq (bit_and v m) 0
    (λ e.
    let z : bit_and v (bit_and m 251) ≡ 0 = sym (and_assoc 251 v m) ∙ ap (λ (n : ℕ). bit_and n 251) e ∙ and_zero_l 251 in
    clash h (rw z refl))
    (λ n. rw (ne_eqb _ 0 n))

-- a source too is told without a bound, and by the objects up to t
source_bound : (n k : ℕ) (x : Objects) (t m : ℕ) → t ≤ n → t ≤ k → source_in n x t m ≡ source_in k x t m
unfolding source_in
source_bound zero zero x t m h l = refl
source_bound zero (suc k) x t m h l = let e : t ≡ 0 = omega arith in rw (first_alone x t e)
source_bound (suc n) zero x t m h l = let e : t ≡ 0 = omega arith in rw (first_alone x t e)
source_bound (suc n) (suc k) x t m h l =
    by_test (inherits x t)
    (λ i. let b = giver_before x t i in rw (source_bound n k x (parent_of x t - 1) (without_no_delete m) (omega arith) (omega arith)))
    (λ i. rw i)

source_more : (x : Objects) (t m : ℕ) → source_in (suc t) x t m
    ≡ cond (has m (flags_of x t)) t (cond (inherits x t) (flag_source x (parent_of x t - 1) (without_no_delete m)) no_object)
unfolding source_in
source_more x t m =
    by_test (inherits x t)
    (λ i. let b = giver_before x t i in rw (source_bound t (parent_of x t - 1) x (parent_of x t - 1) (without_no_delete m) (omega arith) (omega arith)))
    (λ i. rw i)

pub source_is : (x : Objects) (t m : ℕ) → flag_source x t m
    ≡ cond (has m (flags_of x t)) t (cond (inherits x t) (flag_source x (parent_of x t - 1) (without_no_delete m)) no_object)
source_is x t m = source_bound t (suc t) x t m (omega arith) (omega arith) ∙ source_more x t m

source_below : (n b : ℕ) (x y : Objects) → ((t : ℕ) → t < b → flags_of y t ≡ flags_of x t) → ((t : ℕ) → t < b → parent_of y t ≡ parent_of x t)
    → ((t : ℕ) → t < b → at y.lives t ≡ at x.lives t) → (t m : ℕ) → t < b → source_in n y t m ≡ source_in n x t m
unfolding source_in
source_below zero b x y fs ps ls t m h = rw (fs t h)
source_below (suc n) b x y fs ps ls t m h =
    rw (fs t h, inherits_told x y t (fs t h) (ps t h) (λ c. ls (parent_of x t - 1) (omega arith)), ps t h)
    (by_test (inherits x t)
    (λ i. let c = giver_before x t i in rw (source_below n b x y fs ps ls (parent_of x t - 1) (without_no_delete m) (omega arith)))
    (λ i. rw i))

pub source_told : (b : ℕ) (x y : Objects) → ((t : ℕ) → t < b → flags_of y t ≡ flags_of x t) → ((t : ℕ) → t < b → parent_of y t ≡ parent_of x t)
    → ((t : ℕ) → t < b → at y.lives t ≡ at x.lives t) → (t m : ℕ) → t < b → flag_source y t m ≡ flag_source x t m
source_told b x y fs ps ls t m h = source_below t b x y fs ps ls t m h

-- a flag that is effective has a source, and a source has it
source_in_law : (n : ℕ) (x : Objects) (t m : ℕ) → t < most_objects → has m (effective_in n x t) ≡ not (eqb (source_in n x t m) no_object)
unfolding effective_in source_in ◌or◌
source_in_law zero x t m h =
    by_test (has m (flags_of x t))
    (λ a. rw (a, ne_eqb t no_object (λ z. absurd (omega arith))))
    (λ a. rw a)
source_in_law (suc n) x t m h =
    has_or m (flags_of x t) _
    ∙ by_test (has m (flags_of x t))
    (λ a. rw (a, ne_eqb t no_object (λ z. absurd (omega arith))))
    (λ a. by_test (inherits x t)
    (λ i.
    let b = giver_before x t i in
    rw (a, i) (has_without m (effective_in n x (parent_of x t - 1)) ∙ source_in_law n x (parent_of x t - 1) (without_no_delete m) (omega arith)))
    (λ i. rw (a, i) (has_none m)))

pub source_of : (x : Objects) (t m : ℕ) → t < most_objects → has m (effective x t) ≡ not (eqb (flag_source x t m) no_object)
source_of x t m h = source_in_law t x t m h

own_in : (n : ℕ) (x : Objects) (t m : ℕ) → has m (effective_in n x t) ≡ true → has m (flags_of x (source_in n x t m)) ≡ true
unfolding effective_in source_in ◌or◌
own_in zero x t m h = rw h h
own_in (suc n) x t m h =
    by_test (has m (flags_of x t))
    (λ a. rw a a)
    (λ a. let k = sym (has_or m (flags_of x t) _) ∙ h in
    by_test (inherits x t)
    (λ i.
    let e : has (without_no_delete m) (effective_in n x (parent_of x t - 1)) ≡ true
    = sym (has_without m (effective_in n x (parent_of x t - 1))) ∙ (rw (a, i) at k) in
    rw (a, i) (has_more m _ (own_in n x (parent_of x t - 1) (without_no_delete m) e)))
    (λ i. clash (rw (a, i) at k) (has_none m)))

pub source_own : (x : Objects) (t m : ℕ) → has m (effective x t) ≡ true → has m (flags_of x (flag_source x t m)) ≡ true
source_own x t m h = own_in t x t m h

-- flags forbid what one of them forbids
some_of : (a b c d : Bool) → not (eqb (cond a 1 (cond b 2 (cond c 4 (cond d 8 0)))) 0) ≡ (a or b or c or d)
unfolding ◌or◌
some_of true b c d = refl
some_of false true c d = refl
some_of false false true d = refl
some_of false false false true = refl
some_of false false false false = refl

module _ (request : ℕ) (k : Class) (kind : ℕ) where
  one_read_only : forbids read_only request k kind ≡ (alters k or eqb request 19)
  unfolding forbidding has ◌and◌
  one_read_only = by_test (alters k or eqb request 19) (λ a. rw a) (λ a. rw a)

  one_no_execute : forbids no_execute request k kind ≡ eqb request 7
  unfolding forbidding has ◌and◌
  one_no_execute = by_test (eqb request 7) (λ a. rw a) (λ a. rw a)

  one_no_delete : forbids no_delete request k kind ≡ eqb request 5
  unfolding forbidding has ◌and◌
  one_no_delete = by_test (eqb request 5) (λ a. rw a) (λ a. rw a)

  one_search_only : forbids search_only request k kind ≡ (eqb kind 1 and not (eqb request 15))
  unfolding forbidding has ◌and◌
  one_search_only = by_test (eqb kind 1) (λ a. by_test (eqb request 15) (λ b. rw (a, b)) (λ b. rw (a, b))) (λ a. rw a)

  pub each_forbids : (v : ℕ) → forbids v request k kind
      ≡ (has read_only v and forbids read_only request k kind or has no_execute v and forbids no_execute request k kind
      or has no_delete v and forbids no_delete request k kind or has search_only v and forbids search_only request k kind)
  unfolding forbidding
  each_forbids v =
      some_of (has read_only v and (alters k or eqb request 19)) (has no_execute v and eqb request 7) (has no_delete v and eqb request 5)
      (has search_only v and eqb kind 1 and not (eqb request 15))
      ∙ sym (λ i. has read_only v and one_read_only i or has no_execute v and one_no_execute i
      or has no_delete v and one_no_delete i or has search_only v and one_search_only i)
