-- A call comes to the same with what it asks for as with all that it looks at.
use Prim.Native.Nat.{ℕ, suc}
use mathlib.Core.Bool.{Bool, true, false, cond, not}
use mathlib.Core.Path.{◌≡◌, refl, ◌∙◌, ap, sym}
use lib.Dec.{eqb}
use native.Mathlib.Omega.{arith}
use borrow.Author.Tests.{eqb-true}
use Rattle.labels.specs.Decisions.{◌and◌, ◌or◌, on}
use Rattle.answers.specs.declared.Answer.{Answer}
use Rattle.answers.specs.declared.Outcome.{Outcome}
use Rattle.answers.specs.declared.Outcome.TheVariants.{Accepted, Denied, Refused}
use Rattle.answers.specs.declared.Answer.TheVariants.{NotCared}
use Rattle.answers.specs.Outcomes.{answers_from, outcome_of, no_object}
use Rattle.rules.specs.declared.Action.{Action}
use Rattle.rules.specs.declared.Action.TheVariants.{Login, Clone, SendSignal, SetLevel, Terminate, Create, OnObject, Unknown}
use Rattle.rules.specs.declared.Class.{Class}
use Rattle.rules.specs.declared.View.{View}
use Rattle.rules.specs.FileFlags.{all_flags, forbidding, forbids, has, read_only, no_execute, no_delete, search_only}
use Rattle.modules.specs.Parts.{answers_by, fc_answer_by, ff_answer_by, mac_alone, mac_answer_by, mac_rule_by, moved_by, request_in, sim_answer_by}
use Rattle.modules.specs.Laws.Parts.{moved_by_law}
use Rattle.requests.specs.declared.Request.{Request}
use Rattle.rules.specs.Modules.{class_in, ff_rule, flags_seen, levelled, mac_object, moved, signalled, view_of}
use Rattle.rules.specs.Questions.{open_for, room_for, runs_of}
use Rattle.rules.specs.Requests.{class_of, is_create, action_of, alters, write_request, execute_request, delete_request, search_request, directory_kind}
use Rattle.rules.specs.Calls.{after, query}
use Rattle.rules.specs.Effects.{change_of}
use Rattle.questions.specs.Parts.{later_number, late_number, object_number, outcome_by, process_number}
use Rattle.questions.specs.Laws.Calls.{query_later}
use Rattle.effects.specs.Changes.{change_in}
use Rattle.effects.specs.Laws.Changes.{enforced_change}
use Rattle.state.specs.declared.Call.{Call}
use Rattle.state.specs.declared.Change.TheVariants.{CountRefusal}
use Rattle.state.specs.declared.Facility.{Facility}
use Rattle.state.specs.declared.Process.{Process}
use Rattle.state.specs.State.{changed, object_of}
use Rattle.calls.specs.Seen.{view_asked, view_by}

-- what all flags together do not forbid, none does
not_first : (b : Bool) (n x : ℕ) → cond b (suc n) x ≡ 0 → (b ≡ false) × (x ≡ 0)
not_first true n x e = absurd (omega arith)
not_first false n x e = (refl, e)

and_false : (h b : Bool) → b ≡ false → (h and b) ≡ false
unfolding ◌and◌
and_false true b e = e
and_false false b e = refl

none_of : (h1 h2 h3 h4 b1 b2 b3 b4 : Bool) → b1 ≡ false → b2 ≡ false → b3 ≡ false → b4 ≡ false
    → cond (h1 and b1) read_only (cond (h2 and b2) no_execute (cond (h3 and b3) no_delete (cond (h4 and b4) search_only 0))) ≡ 0
none_of h1 h2 h3 h4 b1 b2 b3 b4 e1 e2 e3 e4 = rw (and_false h1 b1 e1, and_false h2 b2 e2, and_false h3 b3 e3, and_false h4 b4 e4)

all_set : (request kind : ℕ) (k : Class) → forbidding all_flags request k kind
    ≡ cond (alters k or eqb request write_request) read_only
    (cond (eqb request execute_request) no_execute
    (cond (eqb request delete_request) no_delete (cond (eqb kind directory_kind and not (eqb request search_request)) search_only 0)))
unfolding forbidding has ◌and◌
all_set request kind k = refl

quiet : (v request kind : ℕ) (k : Class) → forbidding all_flags request k kind ≡ 0 → forbidding v request k kind ≡ 0
unfolding forbidding
quiet v request kind k e =
    let p1 = alters k or eqb request write_request in
    let p2 = eqb request execute_request in
    let p3 = eqb request delete_request in
    let p4 = eqb kind directory_kind and not (eqb request search_request) in
    let s1 = not_first p1 0 _ (sym (all_set request kind k) ∙ e) in
    let s2 = not_first p2 1 _ s1.1 in
    let s3 = not_first p3 3 _ s2.1 in
    let s4 = not_first p4 7 0 s3.1 in
    none_of (has read_only v) (has no_execute v) (has no_delete v) (has search_only v) p1 p2 p3 p4 s1.0 s2.0 s3.0 s4.0

forbids_same : (b : Bool) (v request kind : ℕ) (k : Class) → eqb (forbidding all_flags request k kind) 0 ≡ b
    → forbids (cond b 0 v) request k kind ≡ forbids v request k kind
forbids_same false v request kind k e = refl
forbids_same true v request kind k e =
    let z = eqb-true _ 0 e in
    rw (quiet 0 request kind k z, quiet v request kind k z)

-- so FF answers the same, and no other module looks at what is looked up; the receiver is looked at for a signal alone
ff_same : (f : Facility) (c : Call) → ff_answer_by (request_in (view_of f c) c) (view_asked f c) c ≡ ff_answer_by (request_in (view_of f c) c) (view_of f c) c
unfolding ff_answer_by ff_rule
ff_same f c =
    let kind = (object_of f c.target).kind in
    rw (forbids_same _ (flags_seen f c.target) c.request kind (class_of c.request kind) refl)

mac_same : (k : Action) (f : Facility) (c : Call) → mac_alone k (view_by k f c) c ≡ mac_alone k (view_of f c) c
unfolding mac_alone
mac_same Login f c = refl
mac_same Clone f c = refl
mac_same SendSignal f c = refl
mac_same SetLevel f c = refl
mac_same Terminate f c = refl
mac_same Create f c = refl
mac_same OnObject f c = refl
mac_same Unknown f c = refl

change_same : (k : Action) (f : Facility) (c : Call) → change_of k (view_by k f c) c ≡ change_of k (view_of f c) c
unfolding moved levelled signalled
change_same Login f c = refl
change_same Clone f c = refl
change_same SendSignal f c = refl
change_same SetLevel f c = refl
change_same Terminate f c = refl
change_same Create f c = refl
change_same OnObject f c = refl
change_same Unknown f c = refl

-- what a call comes to, by the answers of MAC where no object is needed and of FF
comes_to : Request → View → Call → Answer → Answer → Outcome
comes_to q v c m x =
    let mac = cond (on v.switches.mac) (cond q.object (mac_object q.class v.target.object v.caller v.owner) m) NotCared in
    let a = answers_from mac (fc_answer_by q v) (sim_answer_by q v c) x in
    let n = object_number q v c (late_number q.action v c a.combined) in
    outcome_of n a (cond (eqb n 0 and is_create q.action) v.entered no_object)

outcome_same : (f : Facility) (c : Call)
    → outcome_by (later_number (request_in (view_of f c) c) (view_asked f c) c) (request_in (view_of f c) c) (view_asked f c) c
    ≡ outcome_by (later_number (request_in (view_of f c) c) (view_of f c) c) (request_in (view_of f c) c) (view_of f c) c
unfolding comes_to outcome_by object_number late_number answers_by mac_answer_by mac_rule_by fc_answer_by sim_answer_by open_for room_for
outcome_same f c = λ i. comes_to (request_in (view_of f c) c) (view_of f c) c (mac_same (action_of c.request) f c i) (ff_same f c i)

pub asked_outcome : (f : Facility) (c : Call) (q : Request) (w : View) (o : Outcome) → q ≡ request_in (view_of f c) c → w ≡ view_asked f c
    → o ≡ outcome_by (later_number q w c) q w c
    → o ≡ outcome_by (later_number (request_in (view_of f c) c) (view_of f c) c) (request_in (view_of f c) c) (view_of f c) c
asked_outcome f c q w o hq hw h =
    h ∙ (λ i. outcome_by (later_number (hq i) (hw i) c) (hq i) (hw i) c) ∙ outcome_same f c

-- what a call comes to that no question before the sixth refuses
pub asked_query : (f : Facility) (c : Call) (q : Request) (w : View) (o : Outcome) → 0 ≡ process_number (action_of c.request) (runs_of (view_of f c)) c 0
    → q ≡ request_in (view_of f c) c → w ≡ view_asked f c → o ≡ outcome_by (later_number q w c) q w c → o ≡ query f c
asked_query f c q w o p hq hw h = query_later f c _ _ _ refl p refl (asked_outcome f c q w o hq hw h)

pub asked_change : (f : Facility) (c : Call) (w : View) (o : Outcome) → w ≡ view_asked f c → change_in o w c ≡ change_in o (view_of f c) c
asked_change f c w (Accepted a o) hw = ap (λ (x : View). change_of (action_of c.request) x c) hw ∙ change_same (action_of c.request) f c
asked_change f c w (Denied a n) hw = ap (λ (x : View). CountRefusal x.caller.owner) hw
asked_change f c w (Refused n) hw = refl

-- so what is changed makes the facility after the call
pub asked_after : (f : Facility) (c : Call) (w : View) (o : Outcome) → w ≡ view_asked f c → o ≡ query f c → changed f (change_in o w c) ≡ after f c
asked_after f c w o hw h = ap (changed f) (asked_change f c w o hw) ∙ enforced_change f c (view_of f c) o h refl

-- the caller is moved by it
pub known_moved : (v : View) (c : Call) (k : Class) (r : Process) → k ≡ class_in v c → r ≡ moved_by k v → r ≡ moved v c
known_moved v c k r h e = e ∙ ap (λ (x : Class). moved_by x v) h ∙ moved_by_law v c
