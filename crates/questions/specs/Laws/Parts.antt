-- The parts of the ordered questions are the whole, and where they stop is what a call comes to.
use Rattle.std.specs.Prelude.{ℕ, suc, ◌<◌, ◌≤◌, ◌≡◌, refl, Bool, true, false, ◌≢◌, cond, eqb}
use Rattle.std.proofs.Common.{◌∙◌, ap, sym, ne_eqb, le-leb, le-ltb}
use Rattle.std.proofs.lemmas.Bool.{lt-leb}
use Rattle.state.specs.declared.Call.{Call}
use Rattle.rules.specs.declared.Action.{Action}
use Rattle.rules.specs.declared.View.{View}
use Rattle.modules.specs.Laws.Parts.{answers_by_law}
use Rattle.modules.specs.Parts.{answers_by, request_in}
use Rattle.requests.specs.declared.Request.{Request}
use Rattle.answers.specs.declared.Answers.{Answers}
use Rattle.rules.specs.Questions.{runs_of, number_by, in_range}
use Rattle.questions.specs.Parts.{late_number, object_number, process_number, outcome_by, later_number, outcome_in}
use Rattle.labels.specs.Decisions.{ask, ◌or◌, ◌and◌}
use Rattle.answers.specs.Outcomes.{denies, no_object, outcome_of}
use Rattle.labels.proofs.Laws.Decisions.{ask_later}
use Rattle.answers.specs.declared.Outcome.TheVariants.{Accepted, Refused}
use Rattle.rules.specs.Requests.{last_request, action_of, is_create}
use Rattle.opens.specs.Opens.{most_processes}
use Rattle.answers.specs.declared.Outcome.{Outcome}

pub all_parts : (v : View) (c : Call)
    → process_number (action_of c.request) (runs_of v) c (later_number (request_in v c) v c) ≡ number_by (action_of c.request) v c
unfolding process_number object_number late_number number_by
all_parts v c =
    let k = action_of c.request in
    ap (λ (a : Answers). process_number k (runs_of v) c (object_number (request_in v c) v c (late_number k v c a.combined))) (answers_by_law v c)

-- A question that does not refuse, whatever the later ones are; and one that does, with a number that is not counted.
passes : (b : Bool) (m r s : ℕ) → ask b (suc m) r ≡ 0 → ask b (suc m) s ≡ s
unfolding ask
passes true m r s h = refl
passes false m r s h = cc

refuses : (b : Bool) (m r s : ℕ) → denies (suc m) ≡ false → (r ≢ 0 → (denies r ≡ false) × (s ≡ r)) → ask b (suc m) r ≢ 0
    → (denies (ask b (suc m) r) ≡ false) × (ask b (suc m) s ≡ ask b (suc m) r)
unfolding ask
refuses true m r s d f h = f h
refuses false m r s d f h = (d, refl)

pub process_passes : (k : Action) (v : View) (c : Call) (n : ℕ) → process_number k (runs_of v) c 0 ≡ 0 → process_number k (runs_of v) c n ≡ n
unfolding process_number
process_passes k v c n h1 =
    let h2 = ask_later _ 0 _ h1 in
    let h3 = ask_later _ 1 _ h2 in
    let h4 = ask_later _ 2 _ h3 in
    let h5 = ask_later _ 3 _ h4 in
    passes _ 0 _ _ h1 ∙ passes _ 1 _ _ h2 ∙ passes _ 2 _ _ h3 ∙ passes _ 3 _ _ h4 ∙ passes _ 4 _ _ h5

pub object_passes : (q : Request) (v : View) (c : Call) (n : ℕ) → object_number q v c 0 ≡ 0 → object_number q v c n ≡ n
unfolding object_number
object_passes q v c n h8 =
    let h6 = ask_later _ 7 _ h8 in
    let h7 = ask_later _ 5 _ h6 in
    let h9 = ask_later _ 6 _ h7 in
    passes _ 7 _ _ h8 ∙ passes _ 5 _ _ h6 ∙ passes _ 6 _ _ h7 ∙ passes _ 8 _ _ h9

not_counted : (n : ℕ) → eqb n 12 ≡ false → eqb n 13 ≡ false → denies n ≡ false
unfolding denies ◌or◌
not_counted n a b = rw (a, b)

pub process_refuses : (k : Action) (v : View) (c : Call) (n : ℕ) → process_number k (runs_of v) c 0 ≢ 0
    → (denies (process_number k (runs_of v) c 0) ≡ false) × (process_number k (runs_of v) c n ≡ process_number k (runs_of v) c 0)
unfolding process_number
process_refuses k v c n =
    refuses _ 0 _ _ (not_counted 1 refl refl)
    (refuses _ 1 _ _ (not_counted 2 refl refl)
    (refuses _ 2 _ _ (not_counted 3 refl refl)
    (refuses _ 3 _ _ (not_counted 4 refl refl)
    (refuses _ 4 _ _ (not_counted 5 refl refl) (λ h. absurd (h refl))))))

object_refuses : (q : Request) (v : View) (c : Call) (n : ℕ) → object_number q v c 0 ≢ 0
    → (denies (object_number q v c 0) ≡ false) × (object_number q v c n ≡ object_number q v c 0)
unfolding object_number
object_refuses q v c n =
    refuses _ 7 _ _ (not_counted 8 refl refl)
    (refuses _ 5 _ _ (not_counted 6 refl refl)
    (refuses _ 6 _ _ (not_counted 7 refl refl)
    (refuses _ 8 _ _ (not_counted 9 refl refl) (λ h. absurd (h refl)))))

refused_by : (n m : ℕ) (q : Request) (v : View) (c : Call) → m ≢ 0 → (denies m ≡ false) × (n ≡ m) → Refused m ≡ outcome_by n q v c
unfolding outcome_by outcome_of
refused_by n m q v c h (d, e) = rw (e, ne_eqb m 0 h, d)

-- the outcome by where the questions stop
pub refused_first : (v : View) (c : Call) (n : ℕ) → n ≡ process_number (action_of c.request) (runs_of v) c 0 → n ≢ 0 → Refused n ≡ outcome_in v c
unfolding outcome_in
refused_first v c n e h =
    let k = action_of c.request in
    let q = request_in v c in
    let g : process_number k (runs_of v) c 0 ≢ 0 = λ z. h (e ∙ z) in
    ap Refused e ∙ refused_by _ _ q v c g (process_refuses k v c _ g) ∙ ap (λ (m : ℕ). outcome_by m q v c) (all_parts v c)

pub refused_second : (q : Request) (v : View) (c : Call) (n : ℕ) → n ≡ object_number q v c 0 → n ≢ 0 → Refused n ≡ outcome_by (later_number q v c) q v c
refused_second q v c n e h =
    let g : object_number q v c 0 ≢ 0 = λ z. h (e ∙ z) in
    ap Refused e ∙ refused_by _ _ q v c g (object_refuses q v c _ g)

pub judged_last : (q : Request) (v : View) (c : Call) → object_number q v c 0 ≡ 0
    → outcome_by (late_number q.action v c (answers_by q v c).combined) q v c ≡ outcome_by (later_number q v c) q v c
judged_last q v c p = ap (λ (m : ℕ). outcome_by m q v c) (sym (object_passes q v c _ p))

later_last : (v : View) (c : Call) → process_number (action_of c.request) (runs_of v) c 0 ≡ 0
    → outcome_by (later_number (request_in v c) v c) (request_in v c) v c ≡ outcome_in v c
unfolding outcome_in
later_last v c p =
    ap (λ (m : ℕ). outcome_by m (request_in v c) v c) (sym (process_passes (action_of c.request) v c _ p) ∙ all_parts v c)

-- questions 1 and 2 refuse
pub first_is_1 : (k : Action) (v : View) (c : Call) → last_request < c.request → 1 ≡ process_number k (runs_of v) c 0
unfolding process_number ask
first_is_1 k v c h = rw (lt-leb c.request last_request h)

pub first_is_2 : (k : Action) (v : View) (c : Call) → c.request ≤ last_request → most_processes ≤ c.process → 2 ≡ process_number k (runs_of v) c 0
unfolding process_number ask in_range ◌and◌
first_is_2 k v c h b =
    rw (le-leb c.request last_request h, le-ltb c.process most_processes b)

-- whatever the later ones are
pub stops_first : (v : View) (c : Call) (n later : ℕ) → n ≢ 0 → n ≡ process_number (action_of c.request) (runs_of v) c 0
    → n ≡ process_number (action_of c.request) (runs_of v) c later
stops_first v c n later h e = e ∙ sym (process_refuses (action_of c.request) v c later (λ z. h (e ∙ z))).1

pub outcome_later : (v : View) (c : Call) (q : Request) (n : ℕ) (o : Outcome) → q ≡ request_in v c
    → n ≡ process_number (action_of c.request) (runs_of v) c 0 → n ≡ 0 → o ≡ outcome_by (later_number q v c) q v c → o ≡ outcome_in v c
outcome_later v c q n o e p z h =
    h ∙ ap (λ (x : Request). outcome_by (later_number x v c) x v c) e ∙ later_last v c (sym p ∙ z)

-- a call that the last questions accept, and one that they refuse with the number m
pub accepted_late : (q : Request) (v : View) (c : Call) (n o : ℕ) (a : Answers) → 0 ≡ n → a ≡ answers_by q v c
    → o ≡ cond (is_create q.action) v.entered no_object → Accepted a o ≡ outcome_by n q v c
unfolding outcome_by outcome_of ◌and◌
accepted_late q v c n o a z e g = rw (← z) (λ i. Accepted (e i) (g i))

pub refused_late : (q : Request) (v : View) (c : Call) (n m : ℕ) (a : Answers) → m ≢ 0 → m ≡ n → a ≡ answers_by q v c
    → outcome_of m a no_object ≡ outcome_by n q v c
unfolding outcome_by ◌and◌
refused_late q v c n m a h e g = rw (← e, ne_eqb m 0 h) (ap (λ (x : Answers). outcome_of m x no_object) g)

-- with another number than 0 an outcome has no object number
pub object_left_out : (m o : ℕ) (a : Answers) → m ≢ 0 → outcome_of m a o ≡ outcome_of m a no_object
unfolding outcome_of
object_left_out m o a h = rw (ne_eqb m 0 h) refl
