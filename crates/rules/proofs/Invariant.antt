-- What holds of a facility with MAC on and of the account beside it, after every list without a trusted login; and that each way of changing them keeps it.
-- Labels are used through their laws alone.
use Rattle.std.specs.Prelude.{ℕ, ◌+◌, ◌<◌, ◌≡◌, ◌≢◌, Bool, true, false, List, eqb, length}
use Rattle.std.proofs.Common.{sym, ◌∙◌, ap, subst, arith, eqb-true, eq-eqb, ne_eqb}
use Rattle.std.proofs.Math.Path.{subst⁻¹}
use Rattle.rules.specs.Types.{Process, Object, Facility}
use Rattle.labels.specs.Decisions.{on}
use Rattle.labels.proofs.Laws.Decisions.{or_cases, by_test, by_eq}
use Rattle.state.specs.Laws.ReadBack.{object_new, object_old}
use Rattle.opens.specs.Opens.{most_processes, most_objects, most_opens, reading, writing}
use Rattle.state.specs.State.{object_in, process_of, object_of, runs, trusted_user, label_of, opens_of, put_process}
use Rattle.state.specs.State.{put_opens, put_object, drop_object, put_refusals}
use Rattle.state.specs.State.{counted}
use Rattle.labels.specs.Labels.{Label, given, ◌⊑◌}
use Rattle.labels.proofs.Laws.Labels.{⊑_trans}
use Rattle.rules.specs.Flow.{Above}
use Rattle.rules.specs.Matter.{Set, only, put, Account, process_gains, object_gains, assign, enter}
use Rattle.rules.proofs.Sound.{Sound, sound_process, sound_opens, sound_counted, sound_object, sound_drop}
use Rattle.rules.proofs.Processes.{each}

-- an untrusted process: its marks stand on both sides of its level
pub record Ordered (r : Process) : Type 0 where
  pub low : r.readmark ⊑ r.current
  pub high : r.current ⊑ r.writemark

-- of n objects entered, object c with label l is one that process r may know of: at most its read mark
pub record Knows (n : ℕ) (l : Label) (c : ℕ) (r : Process) : Type 0 where
  pub inside : c < n
  pub labelled : given l ≡ true
  pub below : l ⊑ r.readmark

-- object t is one that r may write to at any level that r may still have: at least its write mark
pub record Reaches (n : ℕ) (l : Label) (t : ℕ) (r : Process) : Type 0 where
  pub inside : t < n
  pub labelled : given l ≡ true
  pub above : r.writemark ⊑ l

-- object x with label k may hold the matter of c with label l
pub record Holds (n : ℕ) (k l : Label) (x c : ℕ) : Type 0 where
  pub holder : x < n
  pub inside : c < n
  pub above : x ≢ c → Above k l

-- a process r in its surroundings: n objects entered, their labels, which users are trusted, the process's opens and its matter
pub record Fits (n : ℕ) (labels : ℕ → Label) (trusted : ℕ → Bool) (opens : ℕ → ℕ) (matter : Set) (r : Process) : Type 0 where
  pub owner : on r.running ≡ true → trusted r.owner ≡ false
  pub ordered : on r.running ≡ true → Ordered r
  pub readable : (t : ℕ) → t < most_objects → reading (opens t) ≡ true → (on r.running ≡ true) × Knows n (labels t) t r
  pub writable : (t : ℕ) → t < most_objects → writing (opens t) ≡ true → (on r.running ≡ true) × Reaches n (labels t) t r
  pub knows : (c : ℕ) → on r.running ≡ true → matter c ≡ true → Knows n (labels c) c r

abbrev pub FitsAt : Facility → Account → ℕ → Process → Type 0
FitsAt f a p r = Fits f.entered (label_of f) (trusted_user f) (opens_of f p) (a.processes p) r

pub record Inv (f : Facility) (a : Account) : Type 0 where
  pub sound : Sound f
  pub mac : on f.mac ≡ true
  pub next : a.next ≡ f.entered
  pub kinds : (t : ℕ) → t < f.entered → a.kinds t ≡ (object_of f t).kind
  pub process : (p : ℕ) → FitsAt f a p (process_of f p)
  pub holds : (x c : ℕ) → a.objects x c ≡ true → Holds f.entered (label_of f x) (label_of f c) x c

-- a process is replaced
pub inv_process : (f : Facility) (a : Account) (p : ℕ) (r : Process) → Inv f a → p < most_processes → FitsAt f a p r → Inv (put_process f p r) a
unfolding put_process opens_of
inv_process f a p r I h F =
    record {
      sound = sound_process f p r I.sound;
      mac = I.mac;
      next = I.next;
      kinds = I.kinds;
      process = each f p r (FitsAt f a) I.sound.shaped h F (λ q n. I.process q);
      holds = I.holds;
    }

-- the opens are replaced
pub inv_opens : (f : Facility) (a : Account) (l : List ℕ) → Inv f a → length l ≡ most_opens
    → ((p t : ℕ) → t < most_objects → reading (opens_of (put_opens f l) p t) ≡ true → (runs f p ≡ true) × Knows f.entered (label_of f t) t (process_of f p))
    → ((p t : ℕ) → t < most_objects → writing (opens_of (put_opens f l) p t) ≡ true → (runs f p ≡ true) × Reaches f.entered (label_of f t) t (process_of f p))
    → Inv (put_opens f l) a
unfolding put_opens opens_of
inv_opens f a l I h R W =
    record {
      sound = sound_opens f l h I.sound;
      mac = I.mac;
      next = I.next;
      kinds = I.kinds;
      process = λ p. record { owner = (I.process p).owner; ordered = (I.process p).ordered; readable = R p; writable = W p; knows = (I.process p).knows };
      holds = I.holds;
    }

-- the sets of the account are replaced
pub inv_account : (f : Facility) (a : Account) (os ps : ℕ → Set) → Inv f a
    → ((p c : ℕ) → runs f p ≡ true → ps p c ≡ true → Knows f.entered (label_of f c) c (process_of f p))
    → ((x c : ℕ) → os x c ≡ true → Holds f.entered (label_of f x) (label_of f c) x c)
    → Inv f (record { next = a.next; kinds = a.kinds; objects = os; processes = ps })
inv_account f a os ps I K H =
    record {
      sound = I.sound;
      mac = I.mac;
      next = I.next;
      kinds = I.kinds;
      process = λ p. record {
        owner = (I.process p).owner;
        ordered = (I.process p).ordered;
        readable = (I.process p).readable;
        writable = (I.process p).writable;
        knows = K p;
      };
      holds = H;
    }

-- an object is dropped
pub inv_drop : (f : Facility) (a : Account) (t : ℕ) → Inv f a → Inv (drop_object f t) a
unfolding drop_object opens_of object_in
inv_drop f a t I =
    record {
      sound = sound_drop f t I.sound;
      mac = I.mac;
      next = I.next;
      kinds = I.kinds;
      process = I.process;
      holds = I.holds;
    }

-- a refusal is counted
pub inv_counted : (f : Facility) (a : Account) (u : ℕ) → Inv f a → Inv (counted f u) a
unfolding counted put_refusals opens_of
inv_counted f a u I =
    record {
      sound = sound_counted f u I.sound;
      mac = I.mac;
      next = I.next;
      kinds = I.kinds;
      process = I.process;
      holds = I.holds;
    }

-- a set in a family with one replaced
pub put_cases {ℓ} : (s : ℕ → Set) (i : ℕ) (v : Set) (j c : ℕ) {A : Type ℓ} → put s i v j c ≡ true → (i ≡ j → v c ≡ true → A) → (s j c ≡ true → A) → A
put_cases s i v j c h f g = by_test (eqb i j) (λ e. f (eqb-true i j e) (rw e at h)) (λ e. g (rw e at h))

-- whoever knows t knows what t holds
pub knows_held : (f : Facility) (a : Account) (t c : ℕ) (r : Process) → Inv f a → a.objects t c ≡ true
    → Knows f.entered (label_of f t) t r → Knows f.entered (label_of f c) c r
knows_held f a t c r I m k =
    by_eq t c
    (λ e. subst (λ (x : ℕ). Knows f.entered (label_of f x) x r) e k)
    (λ n.
    let H = I.holds t c m in
    record {
      inside = H.inside;
      labelled = (H.above n).other;
      below = ⊑_trans _ _ _ (H.above n).above k.below;
    })

-- p gains what t holds: t is one that p knows
pub inv_take : (f : Facility) (a : Account) (p t : ℕ) → Inv f a → Knows f.entered (label_of f t) t (process_of f p) → Inv f (process_gains a p t)
unfolding process_gains
inv_take f a p t I k =
    inv_account f a a.objects _ I
    (λ q c u m.
    put_cases a.processes p _ q c m
    (λ e m'. or_cases _ _ m'
    (λ own. (I.process q).knows c u (subst (λ (x : ℕ). a.processes x c ≡ true) e own))
    (λ new. subst (λ (x : ℕ). Knows f.entered (label_of f c) c (process_of f x)) e (knows_held f a t c _ I new k)))
    (λ m'. (I.process q).knows c u m'))
    I.holds

-- t gains what p holds: t is at least p's read mark
pub inv_give : (f : Facility) (a : Account) (p t : ℕ) → Inv f a → runs f p ≡ true
    → t < f.entered → given (label_of f t) ≡ true → (process_of f p).readmark ⊑ label_of f t → Inv f (object_gains a p t)
unfolding object_gains
inv_give f a p t I u i g b =
    inv_account f a _ a.processes I (λ q c. (I.process q).knows c)
    (λ x c m.
    put_cases a.objects t _ x c m
    (λ e m'. subst (λ (y : ℕ). Holds f.entered (label_of f y) (label_of f c) y c) e
    (or_cases _ _ m'
    (λ old. I.holds t c old)
    (λ new.
    let K = (I.process p).knows c u new in
    record {
      holder = i;
      inside = K.inside;
      above = λ n. record { own = g; other = K.labelled; above = ⊑_trans _ _ _ K.below b };
    })))
    (λ m'. I.holds x c m'))

-- a process number gets a set of which r, its process, knows every member
pub inv_assign : (f : Facility) (a : Account) (p : ℕ) (s : Set) → Inv f a
    → ((c : ℕ) → runs f p ≡ true → s c ≡ true → Knows f.entered (label_of f c) c (process_of f p)) → Inv f (assign a p s)
unfolding assign
inv_assign f a p s I k =
    inv_account f a a.objects _ I
    (λ q c u m.
    put_cases a.processes p s q c m
    (λ e m'. subst (λ (x : ℕ). Knows f.entered (label_of f c) c (process_of f x)) e (k c (subst⁻¹ (λ (x : ℕ). runs f x ≡ true) e u) m'))
    (λ m'. (I.process q).knows c u m'))
    I.holds

-- an object that was entered before keeps its label
pub level_old : (f : Facility) (o : Object) (c : ℕ) → c < f.entered → label_of (put_object f o) c ≡ label_of f c
level_old f o c h = ap (λ (x : Object). x.label) (object_old f o c (omega arith))

knows_enter : (f : Facility) (o : Object) (c : ℕ) (r : Process) → Knows f.entered (label_of f c) c r
    → Knows (f.entered + 1) (label_of (put_object f o) c) c r
knows_enter f o c r k =
    let e = level_old f o c k.inside in
    record { inside = omega (arith, k.inside); labelled = rw e k.labelled; below = rw e k.below }

reaches_enter : (f : Facility) (o : Object) (t : ℕ) (r : Process) → Reaches f.entered (label_of f t) t r
    → Reaches (f.entered + 1) (label_of (put_object f o) t) t r
reaches_enter f o t r k =
    let e = level_old f o t k.inside in
    record { inside = omega (arith, k.inside); labelled = rw e k.labelled; above = rw e k.above }

holds_enter : (f : Facility) (o : Object) (x c : ℕ) → Holds f.entered (label_of f x) (label_of f c) x c
    → Holds (f.entered + 1) (label_of (put_object f o) x) (label_of (put_object f o) c) x c
holds_enter f o x c k =
    record {
      holder = omega (arith, k.holder);
      inside = omega (arith, k.inside);
      above = λ n. rw (level_old f o x k.holder, level_old f o c k.inside) (k.above n);
    }

-- a new object
pub inv_enter : (f : Facility) (a : Account) (o : Object) → Inv f a → f.entered < most_objects → Inv (put_object f o) (enter a o.kind)
unfolding put_object enter opens_of
inv_enter f a o I h =
    record {
      sound = sound_object f o h I.sound;
      mac = I.mac;
      next = ap (λ (n : ℕ). n + 1) I.next;
      kinds = λ t b.
          by_eq t f.entered
          (λ e. rw (eq-eqb a.next t (I.next ∙ sym e))
          (sym (subst⁻¹ (λ (k : ℕ). (object_of (put_object f o) k).kind ≡ o.kind) e (ap (λ (x : Object). x.kind) (object_new f o I.sound.shaped h)))))
          (λ n. rw (ne_eqb a.next t (λ q. n (sym q ∙ I.next)), object_old f o t n) (I.kinds t (omega arith)));
      process = λ p. let F = I.process p in
          record {
            owner = F.owner;
            ordered = F.ordered;
            readable = λ t b m. let (u, k) = F.readable t b m in (u, knows_enter f o t _ k);
            writable = λ t b m. let (u, k) = F.writable t b m in (u, reaches_enter f o t _ k);
            knows = λ c u m. knows_enter f o c _ (F.knows c u m);
          };
      holds = λ x c m.
          put_cases a.objects a.next (only a.next) x c m
          (λ e m'. record {
            holder = omega (arith, I.next);
            inside = omega (arith, I.next, eqb-true a.next c m');
            above = λ n. absurd (n (sym e ∙ eqb-true a.next c m'));
          })
          (λ m'. holds_enter f o x c (I.holds x c m'));
    }
