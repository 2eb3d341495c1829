-- The label of an object that is entered stays, whatever is called.
use Rattle.std.specs.Prelude.{ℕ, ◌<◌, ◌≡◌, refl, List, [], ◌∷◌, ltb}
use Rattle.std.proofs.Common.{◌∙◌, arith}
use Rattle.rules.specs.Types.{Call, Object, Facility, Change, NoChange, PutProcess, CloneProcess, EndProcess, UseObject, CreateObject, EnterObject}
use Rattle.state.specs.declared.Change.TheVariants.{CountRefusal}
use Rattle.labels.proofs.Laws.Decisions.{by_test}
use Rattle.answers.specs.Outcomes.{denies}
use Rattle.opens.specs.Opens.{most_objects}
use Rattle.state.specs.State.{changed, object_in, label_of, put_process, put_opens, put_object, add_object, drop_object, put_refusals, counted, open_by}
use Rattle.rules.specs.Modules.{view_of}
use Rattle.rules.specs.Effects.{change_of, effect_from}
use Rattle.rules.specs.Calls.{owner_in, accepted, after_refusal, after}
use Rattle.rules.specs.Histories.{run}
use Rattle.rules.specs.Requests.{OpenChange, Keep, Add, Close}
use Rattle.rules.specs.Requests.{CloseAll, action_of}
use Rattle.rules.specs.Questions.{number}
use Rattle.rules.proofs.Invariant.{level_old}

-- object t of f is entered in g too, with the same label
pub record Kept (f g : Facility) (t : ℕ) : Type 0 where
  pub inside : t < g.entered
  pub label : label_of g t ≡ label_of f t

kept : (f : Facility) (t : ℕ) → t < f.entered → Kept f f t
kept f t h = record { inside = h; label = refl }

kept_add : (f : Facility) (o : Object) (t : ℕ) → t < f.entered → Kept f (add_object f o) t
unfolding add_object put_object
kept_add f o t h =
    by_test (ltb f.entered most_objects)
    (λ e. rw e (record { inside = omega arith; label = level_old f o t h }))
    (λ e. rw e (kept f t h))

kept_open : (o : OpenChange) (f : Facility) (p t u : ℕ) → u < f.entered → Kept f (open_by o f p t) u
unfolding open_by put_opens drop_object object_in
kept_open Keep f p t u h = kept f u h
kept_open (Add m) f p t u h = record { inside = h; label = refl }
kept_open Close f p t u h = record { inside = h; label = refl }
kept_open CloseAll f p t u h = record { inside = h; label = refl }

-- whatever is changed
kept_changed : (x : Change) (f : Facility) (t : ℕ) → t < f.entered → Kept f (changed f x) t
unfolding put_process put_opens counted put_refusals
kept_changed NoChange f t h = kept f t h
kept_changed (PutProcess p r) f t h = record { inside = h; label = refl }
kept_changed (CloneProcess p q) f t h = record { inside = h; label = refl }
kept_changed (EndProcess p) f t h = record { inside = h; label = refl }
kept_changed (UseObject p r u o) f t h =
    let K = kept_open o (put_process f p r) p u t h in
    record { inside = K.inside; label = K.label }
kept_changed (CreateObject p r o) f t h =
    let K = kept_add (put_process f p r) o t h in
    record { inside = K.inside; label = K.label }
kept_changed (EnterObject o) f t h = kept_add f o t h
kept_changed (CountRefusal u) f t h = record { inside = h; label = refl }

kept_after : (f : Facility) (c : Call) (t : ℕ) → t < f.entered → Kept f (after f c) t
unfolding after after_refusal effect_from
kept_after f c t h =
    by_test (accepted f c)
    (λ e. rw e (kept_changed (change_of (action_of c.request) (view_of f c) c) f t h))
    (λ e. rw e (by_test (denies (number f c)) (λ d. rw d (kept_changed (CountRefusal (owner_in f c)) f t h)) (λ d. rw d (kept f t h))))

pub kept_run : (cs : List Call) (f : Facility) (t : ℕ) → t < f.entered → Kept f (run f cs) t
unfolding run
kept_run [] f t h = kept f t h
kept_run (c ∷ cs) f t h =
    let K = kept_after f c t h in
    let L = kept_run cs (after f c) t K.inside in
    record { inside = L.inside; label = L.label ∙ K.label }
