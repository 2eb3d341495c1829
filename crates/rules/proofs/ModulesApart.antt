-- What each module's answer depends on, and that no module but MAC changes what an accepted call does: proved.
use Rattle.std.specs.Prelude.{ℕ, ◌≡◌, refl, Bool, true, false, cond, eqb, ltb}
use Rattle.std.proofs.Common.{◌∙◌, ap}
use Rattle.rules.specs.Types.{Answer, NotCared, Call, Object, Facility, Change, NoChange, PutProcess, CloneProcess, EndProcess, UseObject}
use Rattle.rules.specs.Types.{CreateObject, EnterObject}
use Rattle.labels.specs.Decisions.{◌and◌, ◌or◌, ask, on}
use Rattle.labels.proofs.Laws.Decisions.{clash, by_test}
use Rattle.answers.specs.Outcomes.{denies}
use Rattle.opens.specs.Opens.{most_objects}
use Rattle.state.specs.State.{opens_of, put_process, put_opens, put_object, add_object, drop_object, put_refusals, counted, open_by, changed}
use Rattle.state.specs.declared.Change.TheVariants.{CountRefusal}
use Rattle.rules.specs.Requests.{Action, Login, Clone, SendSignal, SetLevel, Terminate, Create, OnObject, Unknown, OpenChange, Keep, Add, Close}
use Rattle.rules.specs.Requests.{CloseAll, action_of, class_of, needs_object}
use Rattle.rules.specs.Modules.{View, view_of, mac_object, mac_signal, mac_rule, fc_rule, sim_rule, ff_rule}
use Rattle.rules.specs.Modules.{mac_answer, fc_answer, sim_answer, ff_answer, moved}
use Rattle.rules.specs.Modules.{levelled, signalled}
use Rattle.rules.specs.Questions.{open_for, room_for, number_by, number}
use Rattle.rules.specs.Effects.{change_of, effect_from}
use Rattle.rules.specs.Calls.{accepted, after}
use Rattle.rules.specs.ModulesApart.{SameToMac, SameToFc, SameToSim, SameToFf, ModulesApart, with_switches_of, EffectsApart}

mac_object_law : (request : ℕ) (v w : View) → SameToMac v w
    → mac_object (class_of request w.target.object.kind) w.target.object w.caller w.owner
    ≡ mac_object (class_of request v.target.object.kind) v.target.object v.caller v.owner
unfolding mac_object
mac_object_law request v w S = rw (S.caller, S.clearance, S.trusted, S.kind, S.label)

mac_same : (k : Action) (v w : View) (c d : Call) → SameToMac v w → d.request ≡ c.request → d.target ≡ c.target → d.extra ≡ c.extra
    → mac_rule k w d ≡ mac_rule k v c
unfolding mac_rule mac_signal
mac_same Login v w c d S r t e = refl
mac_same Clone v w c d S r t e = refl
mac_same SendSignal v w c d S r t e = rw (S.caller, S.trusted, S.receiver)
mac_same SetLevel v w c d S r t e = rw (S.caller, S.clearance, t, e)
mac_same Terminate v w c d S r t e = refl
mac_same Create v w c d S r t e = rw (e, r, mac_object_law c.request v w S)
mac_same OnObject v w c d S r t e = rw (r, mac_object_law c.request v w S)
mac_same Unknown v w c d S r t e = refl

mac' : (k : Action) (v w : View) (c d : Call) → SameToMac v w → d.request ≡ c.request → d.target ≡ c.target → d.extra ≡ c.extra
    → mac_answer k w d ≡ mac_answer k v c
unfolding mac_answer
mac' k v w c d S r t e = λ i. cond (on (S.switch i)) (mac_same k v w c d S r t e i) NotCared

fc' : (k j : Action) (v w : View) (c d : Call) → SameToFc v w → needs_object j d.extra ≡ needs_object k c.extra → fc_answer j w d ≡ fc_answer k v c
unfolding fc_answer fc_rule
fc' k j v w c d S n = rw (S.switch, S.category, S.role, n)

sim' : (k j : Action) (v w : View) (c d : Call) → SameToSim v w → needs_object j d.extra ≡ needs_object k c.extra → d.request ≡ c.request
    → sim_answer j w d ≡ sim_answer k v c
unfolding sim_answer sim_rule
sim' k j v w c d S n r = rw (S.switch, S.kind, S.datatype, S.role, n, r)

ff' : (k j : Action) (v w : View) (c d : Call) → SameToFf v w → needs_object j d.extra ≡ needs_object k c.extra → d.request ≡ c.request
    → ff_answer j w d ≡ ff_answer k v c
unfolding ff_answer ff_rule
ff' k j v w c d S n r = rw (S.switch, S.kind, S.flags, n, r)

-- where a test fails, alone or behind another one
not_both : (a b : Bool) (x : Answer) → a ≡ false → cond (a and b) x NotCared ≡ NotCared
unfolding ◌and◌
not_both a b x h = rw h

nor_second : (a b : Bool) (x : Answer) → b ≡ false → cond (a and b) x NotCared ≡ NotCared
unfolding ◌and◌
nor_second true b x h = rw h
nor_second false b x h = refl

mac_off' : (k : Action) (v : View) (c : Call) → on v.switches.mac ≡ false → mac_answer k v c ≡ NotCared
unfolding mac_answer
mac_off' k v c h = rw h

fc_off' : (k : Action) (v : View) (c : Call) → on v.switches.fc ≡ false → fc_answer k v c ≡ NotCared
unfolding fc_answer
fc_off' k v c h = not_both _ _ _ h

sim_off' : (k : Action) (v : View) (c : Call) → on v.switches.sim ≡ false → sim_answer k v c ≡ NotCared
unfolding sim_answer
sim_off' k v c h = not_both _ _ _ h

ff_off' : (k : Action) (v : View) (c : Call) → on v.switches.ff ≡ false → ff_answer k v c ≡ NotCared
unfolding ff_answer
ff_off' k v c h = not_both _ _ _ h

unneeded' : (k : Action) (v : View) (c : Call) → needs_object k c.extra ≡ false
    → (fc_answer k v c ≡ NotCared) × (sim_answer k v c ≡ NotCared) × (ff_answer k v c ≡ NotCared)
unfolding fc_answer sim_answer ff_answer
unneeded' k v c h = (nor_second _ _ _ h, nor_second _ _ _ h, nor_second _ _ _ h)

pub modules_apart : ModulesApart
modules_apart =
    record {
      mac = mac';
      fc = fc';
      sim = sim';
      ff = ff';
      mac_off = mac_off';
      fc_off = fc_off';
      sim_off = sim_off';
      ff_off = ff_off';
      unneeded = unneeded';
    }

-- what a call changes, with the switches of another facility
same_change : (k : Action) (f g : Facility) (c : Call) → g.mac ≡ f.mac → change_of k (view_of (with_switches_of g f) c) c ≡ change_of k (view_of f c) c
unfolding moved levelled signalled
same_change Login f g c m = refl
same_change Clone f g c m = refl
same_change SendSignal f g c m = rw m
same_change SetLevel f g c m = rw m
same_change Terminate f g c m = refl
same_change Create f g c m = rw m
same_change OnObject f g c m = rw m
same_change Unknown f g c m = refl

-- and each change of a facility
open_apart : (o : OpenChange) (f g : Facility) (p t : ℕ) → open_by o (with_switches_of g f) p t ≡ with_switches_of g (open_by o f p t)
unfolding open_by put_opens drop_object opens_of
open_apart Keep f g p t = refl
open_apart (Add m) f g p t = refl
open_apart Close f g p t = refl
open_apart CloseAll f g p t = refl

add_apart : (f g : Facility) (o : Object) → add_object (with_switches_of g f) o ≡ with_switches_of g (add_object f o)
unfolding add_object put_object
add_apart f g o = by_test (ltb f.entered most_objects) (λ e. rw e) (λ e. rw e)

changed_apart : (x : Change) (f g : Facility) → changed (with_switches_of g f) x ≡ with_switches_of g (changed f x)
unfolding put_process put_opens counted put_refusals
changed_apart NoChange f g = refl
changed_apart (PutProcess p r) f g = refl
changed_apart (CloneProcess p t) f g = refl
changed_apart (EndProcess p) f g = refl
changed_apart (UseObject p r t o) f g = open_apart o (put_process f p r) g p t
changed_apart (CreateObject p r o) f g = add_apart (put_process f p r) g o
changed_apart (EnterObject o) f g = add_apart f g o
changed_apart (CountRefusal u) f g = refl

effect' : (f g : Facility) (c : Call) → g.mac ≡ f.mac → accepted f c ≡ true → accepted (with_switches_of g f) c ≡ true
    → after (with_switches_of g f) c ≡ with_switches_of g (after f c)
unfolding after effect_from
effect' f g c m a b =
    rw (a, b)
    (ap (changed (with_switches_of g f)) (same_change (action_of c.request) f g c m)
    ∙ changed_apart (change_of (action_of c.request) (view_of f c) c) f g)

-- a number that is neither 0 nor a denial comes of a question before the modules are asked
ask_same : (b : Bool) (n x y : ℕ) → (eqb x 0 ≡ false → denies x ≡ false → y ≡ x)
    → eqb (ask b n x) 0 ≡ false → denies (ask b n x) ≡ false → ask b n y ≡ ask b n x
unfolding ask
ask_same true n x y h a d = h a d
ask_same false n x y h a d = refl

asked_last : (a b : Bool) (y : ℕ) → eqb (ask a 12 (ask b 13 0)) 0 ≡ false → denies (ask a 12 (ask b 13 0)) ≡ false → y ≡ ask a 12 (ask b 13 0)
unfolding ask denies ◌or◌
asked_last true true y h d = clash refl h
asked_last true false y h d = clash refl d
asked_last false b y h d = clash refl d

number_same : (k : Action) (f g : Facility) (c : Call) → eqb (number_by k (view_of f c) c) 0 ≡ false → denies (number_by k (view_of f c) c) ≡ false
    → number_by k (view_of (with_switches_of g f) c) c ≡ number_by k (view_of f c) c
unfolding number_by open_for room_for opens_of
number_same k f g c =
    ask_same _ 1 _ _ (ask_same _ 2 _ _ (ask_same _ 3 _ _ (ask_same _ 4 _ _ (ask_same _ 5 _ _ (ask_same _ 8 _ _ (ask_same _ 6 _ _ (ask_same _ 7 _ _
    (ask_same _ 9 _ _ (ask_same _ 10 _ _ (ask_same _ 11 _ _ (asked_last _ _ _)))))))))))

unasked' : (f g : Facility) (c : Call) → accepted f c ≡ false → denies (number f c) ≡ false → number (with_switches_of g f) c ≡ number f c
unfolding accepted
unasked' f g c a d = number_same (action_of c.request) f g c a d

pub effects_apart : EffectsApart
effects_apart = record { effect = effect'; unasked = unasked' }
