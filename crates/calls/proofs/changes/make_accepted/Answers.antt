-- Each request is its change.
use Rattle.std.specs.Prelude.{ℕ}
use Rattle.std.proofs.Common.{rules, sym, ◌∙◌, ap}
use Rattle.calls.proofs.Created.{inside, outside}
use Rattle.calls.proofs.Seen.{known_moved}
use Rattle.requests.specs.Laws.Actions.{acts_on_object, is_unknown}
use Rattle.rules.specs.Effects.{change_of}
use Rattle.rules.specs.Requests.{action_of}
use Rattle.state.specs.declared.Change.TheVariants.{PutProcess, UseObject}
use Rattle.calls.proofs.changes.make_accepted.Goals as goal

pub returns-in-2 : goal.returns-in-2
unfolding action_of
returns-in-2 g c = rw c.in-2.is c.clone_process.ensures

pub returns-in-4 : goal.returns-in-4
unfolding action_of
returns-in-4 g c =
    let a = c.args in
    let r = known_moved a.v a.c _ _ c.requires c.moved-r.ensures in
    let k = inside a.v a.c _ _ c.in_directory.ensures _ c.if-in_directory.true r c.created.ensures in
    rw (ap (λ (r : ℕ). change_of (action_of r) a.v a.c) c.in-4.is ∙ k) c.create_object.ensures

pub returns-in-4-2 : goal.returns-in-4-2
unfolding action_of
returns-in-4-2 g c =
    let a = c.args in
    let k = outside a.v a.c _ _ c.in_directory.ensures c.if-in_directory.false c.created-in-4-2.ensures in
    rw (ap (λ (r : ℕ). change_of (action_of r) a.v a.c) c.in-4.is ∙ k) c.add_object.ensures

pub returns-in-16 : goal.returns-in-16
unfolding action_of
returns-in-16 g c = rw (c.in-16.is, ← c.signalled.ensures) c.put_process.ensures

pub returns-in-17 : goal.returns-in-17
unfolding action_of
returns-in-17 g c =
    let a = c.args in
    rw (ap (λ (r : ℕ). change_of (action_of r) a.v a.c) c.in-17.is ∙ ap (PutProcess a.c.process) (sym c.levelled.ensures)) c.put_process-in-17.ensures

pub returns-in-18 : goal.returns-in-18
unfolding action_of
returns-in-18 g c = rw c.in-18.is c.end_process.ensures

pub returns-in-21 : goal.returns-in-21
unfolding action_of
returns-in-21 g c = rw (c.in-21.is, ← c.fresh.ensures) c.put_process-in-21.ensures

pub returns-in_default : goal.returns-in_default
returns-in_default g c =
    let m = c.in_default.in_default-own.rest in
    let a = c.args in
    let r = known_moved a.v a.c _ _ c.requires c.moved-r-in_default.ensures in
    let k = acts_on_object _ m.0.0.0.0.0.1 m.0.0.0.0.1 m.0.0.0.1 m.0.0.1 m.0.1 m.1
    (search rules) in
    rw (ap (λ x. change_of x a.v a.c) k
    ∙ (λ i. UseObject a.c.process (sym r i) a.c.target
    (sym c.open_change.ensures i)))
    c.use_object.ensures

pub returns-in-22-to-255 : goal.returns-in-22-to-255
returns-in-22-to-255 g c =
    let a = c.args in
    let r = a.c.request in
    let k = is_unknown r (search rules) (search rules) (search rules) (search rules) (search rules) (search rules) (search rules) in
    rw (ap (λ x. change_of x a.v a.c) k) c.end_process-in-22-to-255.ensures
