-- Object numbers: proved.
use Rattle.std.specs.Prelude.{ℕ, ◌+◌, ◌<◌, ◌≡◌, refl, ◌≢◌, Bool, true, false, not, cond, List, [], ◌∷◌, ltb, eqb, length}
use Rattle.std.proofs.Common.{◌∙◌, ap, subst, arith, ltb-true, lt-ltb, ne_eqb}
use Rattle.rules.specs.Types.{Call, Object, Facility}
use Rattle.labels.specs.Decisions.{◌and◌, ask}
use Rattle.labels.proofs.Laws.Decisions.{and_l, by_test}
use Rattle.answers.specs.Outcomes.{denies, outcome_of, object_number_of}
use Rattle.opens.specs.Opens.{most_objects}
use Rattle.state.specs.State.{put_process, put_opens, put_object, add_object, drop_object, put_refusals, counted, open_by}
use Rattle.rules.specs.Effects.{effect_from, effect_by}
use Rattle.rules.specs.Calls.{owner_in, accepted, object_given, query, after_refusal, after}
use Rattle.rules.specs.Histories.{run}
use Rattle.rules.specs.Requests.{Action, Login, Clone, SendSignal, SetLevel, Terminate, Create, OnObject, Unknown, OpenChange, Keep, Add, Close}
use Rattle.rules.specs.Requests.{CloseAll, action_of, is_create, in_directory, open_change}
use Rattle.rules.specs.Setup.{fresh}
use Rattle.rules.specs.Modules.{View, view_of, moved}
use Rattle.rules.specs.Promises.{numbers_given, up_from, passes_to9, ObjectNumbers}
use Rattle.rules.specs.Questions.{room_for, number_by, number}
use Rattle.rules.proofs.Regular.{regular_run}
use Rattle.rules.proofs.Fresh.{fresh_setup}
use Rattle.rules.proofs.Passed.{Passed, passed, accepted_zero}

open_entered : (o : OpenChange) (f : Facility) (p t : ℕ) → (open_by o f p t).entered ≡ f.entered
unfolding open_by put_opens drop_object
open_entered Keep f p t = refl
open_entered (Add m) f p t = refl
open_entered Close f p t = refl
open_entered CloseAll f p t = refl

add_entered : (f : Facility) (o : Object) → f.entered < most_objects → (add_object f o).entered ≡ f.entered + 1
unfolding add_object put_object
add_entered f o h = rw (lt-ltb _ _ h)

-- an accepted create enters one object more, every other call none
pub effect_entered : (k : Action) (f : Facility) (c : Call) → Passed k (view_of f c) c → (effect_by k f c).entered ≡ f.entered + cond (is_create k) 1 0
unfolding effect_from put_process put_opens
effect_entered Login f c q = omega arith
effect_entered Clone f c q = omega arith
effect_entered SendSignal f c q = omega arith
effect_entered Unknown f c q = omega arith
effect_entered SetLevel f c q = omega arith
effect_entered Terminate f c q = omega arith
effect_entered Create f c q =
    by_test (in_directory c.extra)
    (λ e. rw e (add_entered (put_process f c.process _) _ (ltb-true _ _ q.room)))
    (λ e. rw e (add_entered f _ (ltb-true _ _ q.room)))
effect_entered OnObject f c q =
    let e = open_entered (open_change c.request) (put_process f c.process (moved (view_of f c) c)) c.process c.target in
    omega arith

pub refused_entered : (f : Facility) (u n : ℕ) → (after_refusal f u n).entered ≡ f.entered
unfolding after_refusal counted put_refusals
refused_entered f u n = by_test (denies n) (λ h. rw h) (λ h. rw h)

-- whether a call is an accepted create
abbrev creates : Facility → Call → Bool
creates f c = accepted f c and is_create (action_of c.request)

call_entered : (f : Facility) (c : Call) → (after f c).entered ≡ f.entered + cond (creates f c) 1 0
unfolding after ◌and◌
call_entered f c =
    by_test (accepted f c)
    (λ h. rw h (effect_entered (action_of c.request) f c (passed (action_of c.request) (view_of f c) c (accepted_zero f c h))))
    (λ h. rw h (let e = refused_entered f (owner_in f c) (number f c) in omega arith))

-- an accepted create returns the next number
create_next : (f : Facility) (c : Call) → creates f c ≡ true → object_number_of (query f c) ≡ f.entered
unfolding query outcome_of object_given accepted
create_next f c h = rw (h, and_l _ _ h)

run_entered : (cs : List Call) (f : Facility) → (run f cs).entered ≡ f.entered + length (numbers_given f cs)
unfolding run numbers_given
run_entered [] f = omega arith
run_entered (c ∷ cs) f =
    let e = call_entered f c in
    let r = run_entered cs (after f c) in
    by_test (creates f c)
    (λ h. rw h (let d : (after f c).entered ≡ f.entered + 1 = rw h at e in omega arith))
    (λ h. rw h (let d : (after f c).entered ≡ f.entered + 0 = rw h at e in omega arith))

run_rising : (cs : List Call) (f : Facility) → numbers_given f cs ≡ up_from f.entered (length (numbers_given f cs))
unfolding numbers_given up_from
run_rising [] f = refl
run_rising (c ∷ cs) f =
    let e = call_entered f c in
    let r = run_rising cs (after f c) in
    by_test (creates f c)
    (λ h.
    let d : (after f c).entered ≡ f.entered + 1 = rw h at e in
    rw h (rw (create_next f c h)
    (ap (λ (l : List ℕ). f.entered ∷ l) (subst (λ (n : ℕ). numbers_given (after f c) cs ≡ up_from n (length (numbers_given (after f c) cs))) d r))))
    (λ h.
    let d : (after f c).entered ≡ f.entered = rw h at e ∙ omega arith in
    rw h (subst (λ (n : ℕ). numbers_given (after f c) cs ≡ up_from n (length (numbers_given (after f c) cs))) d r))

-- number 10 is no number of a later question
ask_other : (b : Bool) (n r m : ℕ) → n ≢ m → r ≢ m → ask b n r ≢ m
unfolding ask
ask_other true n r m h k = k
ask_other false n r m h k = h

later_not_ten : (a b c : Bool) → eqb (ask a 11 (ask b 12 (ask c 13 0))) 10 ≡ false
later_not_ten a b c =
    ne_eqb _ 10 (ask_other a 11 _ 10 (omega arith) (ask_other b 12 _ 10 (omega arith) (ask_other c 13 0 10 (omega arith) (omega arith))))

-- its own question
ten_asked : (k : Action) (v : View) (c : Call) (later : ℕ) → eqb later 10 ≡ false
    → eqb (ask (room_for k v c) 10 later) 10 ≡ (is_create k and not (ltb v.entered most_objects))
unfolding room_for ask ◌and◌
ten_asked k v c later h =
    by_test (is_create k) (λ e. rw e (by_test (ltb v.entered most_objects) (λ r. rw r h) (λ r. rw r refl))) (λ e. rw e h)

-- a question with another number than m, before p and q: m comes where it is answered with yes, and they say so
ask_last : (b q : Bool) (n later m : ℕ) → n ≢ m → eqb later m ≡ q → eqb (ask b n later) m ≡ (b and q)
unfolding ask ◌and◌
ask_last true q n later m h e = e
ask_last false q n later m h e = ne_eqb n m h

ask_before : (b p q : Bool) (n later m : ℕ) → n ≢ m → eqb later m ≡ (p and q) → eqb (ask b n later) m ≡ ((b and p) and q)
unfolding ask ◌and◌
ask_before true p q n later m h e = e
ask_before false p q n later m h e = ne_eqb n m h

ten_exactly : (k : Action) (v : View) (c : Call) → eqb (number_by k v c) 10 ≡ (passes_to9 k v c and is_create k and not (ltb v.entered most_objects))
unfolding number_by
ten_exactly k v c =
    ask_before _ _ _ 1 _ 10 (omega arith) (ask_before _ _ _ 2 _ 10 (omega arith) (ask_before _ _ _ 3 _ 10 (omega arith)
    (ask_before _ _ _ 4 _ 10 (omega arith) (ask_before _ _ _ 5 _ 10 (omega arith) (ask_before _ _ _ 8 _ 10 (omega arith)
    (ask_before _ _ _ 6 _ 10 (omega arith) (ask_before _ _ _ 7 _ 10 (omega arith) (ask_last _ _ 9 _ 10 (omega arith)
    (ten_asked k v c _ (later_not_ten _ _ _))))))))))

pub object_numbers : ObjectNumbers
object_numbers =
    record {
      most = λ s cs. (regular_run cs (fresh s) (fresh_setup s).regular).sound.entered;
      rising = λ s cs. run_rising cs (fresh s);
      entering = λ s cs. run_entered cs (fresh s);
      ten = ten_exactly;
    }
