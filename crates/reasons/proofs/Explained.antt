-- Each module's answer is told by the conditions that failed; so a reason is told exactly where the modules refuse.
use Rattle.std.specs.Prelude.{ℕ, ◌≡◌, refl, Bool, true, false, not, cond, eqb}
use Rattle.std.proofs.Common.{sym, ◌∙◌, ap, eqb-true}
use Rattle.labels.specs.Decisions.{◌and◌, ◌or◌, on}
use Rattle.labels.specs.Labels.{unset}
use Rattle.labels.proofs.Laws.Decisions.{clash, by_test, or_none}
use Rattle.answers.specs.declared.Answer.{Answer}
use Rattle.answers.specs.declared.Answer.TheVariants.{NotCared, Granted, NotGranted, Undefined}
use Rattle.answers.specs.declared.Answers.{Answers}
use Rattle.answers.specs.Answers.{combine, is_not_granted, is_undefined, grant, passes}
use Rattle.answers.proofs.Laws.Answers.{neither_passes, passes_not_granted, passes_undefined, passes_first}
use Rattle.answers.specs.Outcomes.{answers_of, answers_from, denies, not_cared, outcome_of}
use Rattle.state.specs.declared.Call.{Call}
use Rattle.state.specs.declared.Facility.{Facility}
use Rattle.rules.specs.declared.View.{View}
use Rattle.rules.specs.Calls.{query}
use Rattle.rules.specs.FileFlags.{forbidding}
use Rattle.rules.specs.Modules.{view_of, class_in, fc_rule, sim_rule, ff_rule, fc_answer, sim_answer, ff_answer, answers}
use Rattle.rules.specs.Questions.{number_by, number}
use Rattle.rules.specs.Requests.{action_of, alters, needs_object}
use Rattle.rules.proofs.Passed.{passed, judged}
use Rattle.rules.proofs.Refusals.{query_number}
use Rattle.reasons.specs.Reasons.{Failed, nothing_failed, category_unset, category_failed, data_type_failed, flag_failed, failed_in, failed_by, failed_of}
use Rattle.reasons.specs.Explained.{any_failed, Told, Explained}
use Rattle.reasons.proofs.MacTold.{mac_told}

-- FC, SIM and FF, each behind its guard g
fc_undefined : (g e m : Bool) → is_undefined (cond g (cond e Undefined (grant m)) NotCared) ≡ (g and e)
unfolding grant ◌and◌
fc_undefined true true m = refl
fc_undefined true false true = refl
fc_undefined true false false = refl
fc_undefined false e m = refl

fc_refuses : (g e m : Bool) → is_not_granted (cond g (cond e Undefined (grant m)) NotCared) ≡ (g and not e and not m)
unfolding grant ◌and◌
fc_refuses true true m = refl
fc_refuses true false true = refl
fc_refuses true false false = refl
fc_refuses false e m = refl

sim_refuses : (g e m : Bool) → is_not_granted (cond g (cond e (grant m) NotCared) NotCared) ≡ (g and e and not m)
unfolding grant ◌and◌
sim_refuses true true true = refl
sim_refuses true true false = refl
sim_refuses true false m = refl
sim_refuses false e m = refl

sim_defined : (g e m : Bool) → is_undefined (cond g (cond e (grant m) NotCared) NotCared) ≡ false
unfolding grant
sim_defined true true true = refl
sim_defined true true false = refl
sim_defined true false m = refl
sim_defined false e m = refl

ff_defined : (g b : Bool) → is_undefined (cond g (cond b NotGranted NotCared) NotCared) ≡ false
ff_defined true true = refl
ff_defined true false = refl
ff_defined false b = refl

ff_refuses : (g : Bool) (n : ℕ) → is_not_granted (cond g (cond (not (eqb n 0)) NotGranted NotCared) NotCared) ≡ not (eqb (cond g n 0) 0)
ff_refuses true n = by_test (eqb n 0) (λ e. rw e) (λ e. rw e)
ff_refuses false n = refl

-- whether a module with this switch looks at the call's object; what SIM guards, and the flag that forbids
abbrev seen : Call → ℕ → Bool
seen c n = on n and needs_object (action_of c.request) c.extra

abbrev guarded : View → Call → Bool
guarded v c = (alters (class_in v c) or eqb c.request 19) and eqb v.target.object.datatype 1

abbrev forbade : View → Call → ℕ
forbade v c = forbidding v.looked.flags c.request (class_in v c) v.target.object.kind

-- a call that the modules judged
judged_told : (v : View) (c : Call) → denies (number_by (action_of c.request) v c) ≡ true
    → Told (answers (action_of c.request) v c) (failed_in (action_of c.request) v c)
unfolding answers answers_from failed_in fc_answer fc_rule sim_answer sim_rule ff_answer ff_rule category_unset category_failed data_type_failed flag_failed
judged_told v c d =
    let j = judged (action_of c.request) v c d in
    let m = mac_told v c j.known j.class in
    let o = v.target.object in
    let nocategory = eqb o.category unset in
    let fits = eqb o.category 0 or eqb o.category v.owner.role in
    record {
      unset = m.unset;
      refuses = m.refuses;
      nocategory = fc_undefined (seen c v.switches.fc) nocategory fits;
      category = fc_refuses (seen c v.switches.fc) nocategory fits;
      datatype = sim_refuses (seen c v.switches.sim) (guarded v c) (eqb v.owner.role 1);
      flag = ff_refuses (seen c v.switches.ff) (forbade v c);
    }

-- a call that they let pass, or that was refused before they were asked: nothing failed
nothing_told : (a : Answers) → passes a.mac ≡ true → passes a.fc ≡ true → passes a.sim ≡ true → passes a.ff ≡ true → Told a nothing_failed
unfolding ◌or◌
nothing_told a m f s g =
    record {
      unset = passes_undefined a.mac m;
      refuses = passes_not_granted a.mac m;
      nocategory = passes_undefined a.fc f;
      category = passes_not_granted a.fc f;
      datatype = passes_not_granted a.sim s;
      flag = passes_not_granted a.ff g;
    }

passes_rest : (a b : Answer) → passes (combine a b) ≡ true → passes b ≡ true
unfolding passes
passes_rest NotCared b h = h
passes_rest Granted NotCared h = refl
passes_rest Granted Granted h = refl
passes_rest Granted NotGranted h = h
passes_rest Granted Undefined h = h
passes_rest NotGranted NotCared h = refl
passes_rest NotGranted Granted h = refl
passes_rest NotGranted NotGranted h = h
passes_rest NotGranted Undefined h = h
passes_rest Undefined NotCared h = refl
passes_rest Undefined Granted h = refl
passes_rest Undefined NotGranted h = clash h refl
passes_rest Undefined Undefined h = clash h refl

combined_told : (m f s g : Answer) → passes (combine m (combine f (combine s g))) ≡ true → Told (answers_from m f s g) nothing_failed
unfolding answers_from
combined_told m f s g h =
    let h2 = passes_rest m _ h in
    let h3 = passes_rest f _ h2 in
    nothing_told (answers_from m f s g) (passes_first m _ h) (passes_first f _ h2) (passes_first s _ h3) (passes_rest s g h3)

accepted_told : (v : View) (c : Call) → number_by (action_of c.request) v c ≡ 0 → Told (answers (action_of c.request) v c) nothing_failed
unfolding answers answers_from
accepted_told v c z = combined_told _ _ _ _ (passed (action_of c.request) v c z).answer

passes_both : (a b : Answer) → passes a ≡ true → passes b ≡ true → passes (combine a b) ≡ true
unfolding passes
passes_both NotCared b h k = k
passes_both Granted NotCared h k = refl
passes_both Granted Granted h k = refl
passes_both Granted NotGranted h k = k
passes_both Granted Undefined h k = k
passes_both NotGranted b h k = clash h refl
passes_both Undefined b h k = clash h refl

-- where all are told and nothing failed, the combined answer passes: SIM and FF are never undefined
none_failed : (a : Answers) (w : Failed) → Told a w → is_undefined a.sim ≡ false → is_undefined a.ff ≡ false → any_failed w ≡ false
    → passes (combine a.mac (combine a.fc (combine a.sim a.ff))) ≡ true
none_failed a w t u v h =
    let (h1, k1) = or_none _ _ h in
    let (h2, k2) = or_none _ _ k1 in
    let (h3, k3) = or_none _ _ k2 in
    let (h4, k4) = or_none _ _ k3 in
    let (h5, h6) = or_none _ _ k4 in
    passes_both _ _ (neither_passes a.mac (t.refuses ∙ h2) (t.unset ∙ h1))
    (passes_both _ _ (neither_passes a.fc (t.category ∙ h4) (t.nocategory ∙ h3))
    (passes_both _ _ (neither_passes a.sim (t.datatype ∙ h5) u) (neither_passes a.ff (t.flag ∙ h6) v)))

judged_any : (v : View) (c : Call) → denies (number_by (action_of c.request) v c) ≡ true → any_failed (failed_in (action_of c.request) v c) ≡ true
unfolding answers answers_from sim_answer sim_rule ff_answer ff_rule
judged_any v c d =
    let k = action_of c.request in
    by_test (any_failed (failed_in k v c)) (λ h. h)
    (λ h. clash (none_failed (answers k v c) (failed_in k v c) (judged_told v c d)
    (sim_defined (seen c v.switches.sim) (guarded v c) (eqb v.owner.role 1)) (ff_defined (seen c v.switches.ff) (not (eqb (forbade v c) 0))) h)
    (judged k v c d).answer)

-- an outcome's answers: of a denied call and an accepted one those of the modules, else none
denied_answers : (n : ℕ) (a : Answers) (o : ℕ) → denies n ≡ true → answers_of (outcome_of n a o) ≡ a
unfolding outcome_of denies ◌or◌
denied_answers n a o d = by_test (eqb n 0) (λ z. clash (rw (eqb-true n 0 z) at d) refl) (λ z. rw (z, d))

undenied_told : (n : ℕ) (a : Answers) (o : ℕ) → denies n ≡ false → (n ≡ 0 → Told a nothing_failed) → Told (answers_of (outcome_of n a o)) nothing_failed
unfolding outcome_of passes
undenied_told n a o d t =
    by_test (eqb n 0) (λ z. rw z (t (eqb-true n 0 z))) (λ z. rw (z, d) (nothing_told not_cared refl refl refl refl))

pub explained : (f : Facility) (c : Call) → Explained f c
unfolding query failed_of failed_by ◌or◌
explained f c =
    by_test (denies (number f c))
    (λ d. record {
      told = rw (d, denied_answers _ _ _ d) (judged_told (view_of f c) c d);
      any = ap denies (query_number f c) ∙ d ∙ sym (rw d (judged_any (view_of f c) c d));
    })
    (λ d. record { told = rw d (undenied_told _ _ _ d (accepted_told (view_of f c) c)); any = ap denies (query_number f c) ∙ rw d })
