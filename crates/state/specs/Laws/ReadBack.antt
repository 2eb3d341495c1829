-- What each way of changing a facility does to what is read off it.
use Rattle.std.specs.Prelude.{ℕ, ◌+◌, ◌<◌, ◌≤◌, min, ◌≡◌, List, ◌≢◌, length, set, ltb}
use Rattle.std.proofs.Common.{ap, ◌∙◌, sym, length-set, get_or-set_same, get_or-set_other, arith, lt-ltb, le-ltb, ltb-true, ltb-false}
use Rattle.std.proofs.Math.Seq.{set_out}
use Rattle.std.proofs.lemmas.List.{set-get_or}
use Rattle.labels.specs.Decisions.{at}
use Rattle.labels.proofs.Laws.Decisions.{by_test}
use Rattle.state.specs.State.{Facility, Process, process_in, process_of, put_process, User, most_users, user_in, user_of, put_user, Object, object_in}
use Rattle.state.specs.State.{object_of, put_object, add_user, add_object, put_opens, drop_object, put_refusals, opens_of, processes_from, users_in, objects_in}
use Rattle.state.specs.State.{processes_in, with, objects_from, put_marks, deleted, counted, refusals_of, most_refusals, one_more}
use Rattle.opens.specs.Opens.{most_processes, most_objects, most_opens, place, mark_place}
use Rattle.labels.specs.Labels.{label}
use Rattle.state.specs.Shaped.{Shaped, ProcessesShaped}
use Rattle.opens.specs.Laws.Opens.{mark_place_law, no_process_place}
use Rattle.opens.specs.Laws.Loops.{no_object_closed}

at_same : (l : List ℕ) (i v n : ℕ) → length l ≡ n → i < n → at (set l i v) i ≡ v
at_same l i v n e h = get_or-set_same l i v 0 (omega arith)

at_other : (l : List ℕ) (i j v : ℕ) → j ≢ i → at (set l i v) j ≡ at l j
at_other l i j v h = get_or-set_other l i j v 0 h

-- the process that was put is read back, and no other is touched
pub process_same : (f : Facility) (p : ℕ) (r : Process) → Shaped f → p < most_processes → process_of (put_process f p r) p ≡ r
unfolding process_in put_process
process_same f p r s h =
    let l = s.processes in
    λ i. record {
      running = at_same f.runnings p r.running most_processes l.runnings h i;
      owner = at_same f.owners p r.owner most_processes l.owners h i;
      current =
          label (at_same f.currents p r.current.level most_processes l.currents h i)
          (at_same f.currentsets p r.current.set most_processes l.currentsets h i);
      readmark =
          label (at_same f.readmarks p r.readmark.level most_processes l.readmarks h i)
          (at_same f.readsets p r.readmark.set most_processes l.readsets h i);
      writemark =
          label (at_same f.writemarks p r.writemark.level most_processes l.writemarks h i)
          (at_same f.writesets p r.writemark.set most_processes l.writesets h i);
      automatic = at_same f.automatics p r.automatic most_processes l.automatics h i;
      moves = at_same f.moves p r.moves most_processes l.moves h i;
    }

pub process_other : (f : Facility) (p q : ℕ) (r : Process) → q ≢ p → process_of (put_process f p r) q ≡ process_of f q
unfolding process_in put_process
process_other f p q r h =
    λ i. record {
      running = at_other f.runnings p q r.running h i;
      owner = at_other f.owners p q r.owner h i;
      current = label (at_other f.currents p q r.current.level h i) (at_other f.currentsets p q r.current.set h i);
      readmark = label (at_other f.readmarks p q r.readmark.level h i) (at_other f.readsets p q r.readmark.set h i);
      writemark = label (at_other f.writemarks p q r.writemark.level h i) (at_other f.writesets p q r.writemark.set h i);
      automatic = at_other f.automatics p q r.automatic h i;
      moves = at_other f.moves p q r.moves h i;
    }

-- so with a new user and a new object
pub user_new : (f : Facility) (u : User) → Shaped f → f.users < most_users → user_of (put_user f u) f.users ≡ u
unfolding user_in put_user
user_new f u s h =
    let l = s.users in
    λ i. record {
      clearance =
          label (at_same f.clearances f.users u.clearance.level most_users l.clearances h i)
          (at_same f.clearancesets f.users u.clearance.set most_users l.clearancesets h i);
      role = at_same f.roles f.users u.role most_users l.roles h i;
      trusted = at_same f.trusts f.users u.trusted most_users l.trusts h i;
    }

pub user_old : (f : Facility) (u : User) (v : ℕ) → v ≢ f.users → user_of (put_user f u) v ≡ user_of f v
unfolding user_in put_user
user_old f u v h =
    λ i. record {
      clearance =
          label (at_other f.clearances f.users v u.clearance.level h i) (at_other f.clearancesets f.users v u.clearance.set h i);
      role = at_other f.roles f.users v u.role h i;
      trusted = at_other f.trusts f.users v u.trusted h i;
    }

pub object_new : (f : Facility) (o : Object) → Shaped f → f.entered < most_objects → object_of (put_object f o) f.entered ≡ o
unfolding object_in put_object
object_new f o s h =
    let l = s.objects in
    λ i. record {
      live = at_same f.lives f.entered o.live most_objects l.lives h i;
      kind = at_same f.kinds f.entered o.kind most_objects l.kinds h i;
      label =
          label (at_same f.levels f.entered o.label.level most_objects l.levels h i)
          (at_same f.sets f.entered o.label.set most_objects l.sets h i);
      category = at_same f.categories f.entered o.category most_objects l.categories h i;
      datatype = at_same f.datatypes f.entered o.datatype most_objects l.datatypes h i;
      flags = at_same f.flags f.entered o.flags most_objects l.flags h i;
      parent = at_same f.parents f.entered o.parent most_objects l.parents h i;
    }

pub object_old : (f : Facility) (o : Object) (t : ℕ) → t ≢ f.entered → object_of (put_object f o) t ≡ object_of f t
unfolding object_in put_object
object_old f o t h =
    λ i. record {
      live = at_other f.lives f.entered t o.live h i;
      kind = at_other f.kinds f.entered t o.kind h i;
      label = label (at_other f.levels f.entered t o.label.level h i) (at_other f.sets f.entered t o.label.set h i);
      category = at_other f.categories f.entered t o.category h i;
      datatype = at_other f.datatypes f.entered t o.datatype h i;
      flags = at_other f.flags f.entered t o.flags h i;
      parent = at_other f.parents f.entered t o.parent h i;
    }

-- where there is room, a user or an object more is put
pub add_user_law : (f : Facility) (u : User) → f.users < most_users → add_user f u ≡ put_user f u
unfolding add_user
add_user_law f u h = rw (lt-ltb _ _ h)

pub add_object_law : (f : Facility) (o : Object) → f.entered < most_objects → add_object f o ≡ put_object f o
unfolding add_object
add_object_law f o h = rw (lt-ltb _ _ h)

-- the lengths stay
pub shaped_process : (f : Facility) (p : ℕ) (r : Process) → Shaped f → Shaped (put_process f p r)
unfolding put_process
shaped_process f p r s =
    let l = s.processes in
    record {
      users = s.users;
      objects = s.objects;
      processes = record {
        runnings = simp length-set l.runnings;
        owners = simp length-set l.owners;
        currents = simp length-set l.currents;
        readmarks = simp length-set l.readmarks;
        writemarks = simp length-set l.writemarks;
        automatics = simp length-set l.automatics;
        moves = simp length-set l.moves;
        currentsets = simp length-set l.currentsets;
        readsets = simp length-set l.readsets;
        writesets = simp length-set l.writesets;
      };
      opens = s.opens;
      refusals = s.refusals;
    }

pub shaped_opens : (f : Facility) (l : List ℕ) → length l ≡ most_opens → Shaped f → Shaped (put_opens f l)
unfolding put_opens
shaped_opens f l e s = record { users = s.users; objects = s.objects; processes = s.processes; opens = e; refusals = s.refusals }

pub shaped_user : (f : Facility) (u : User) → Shaped f → Shaped (put_user f u)
unfolding put_user
shaped_user f u s =
    let l = s.users in
    record {
      users = record {
        clearances = simp length-set l.clearances;
        roles = simp length-set l.roles;
        trusts = simp length-set l.trusts;
        clearancesets = simp length-set l.clearancesets;
      };
      objects = s.objects;
      processes = s.processes;
      opens = s.opens;
      refusals = s.refusals;
    }

pub shaped_object : (f : Facility) (o : Object) → Shaped f → Shaped (put_object f o)
unfolding put_object
shaped_object f o s =
    let l = s.objects in
    record {
      users = s.users;
      objects = record {
        lives = simp length-set l.lives;
        kinds = simp length-set l.kinds;
        levels = simp length-set l.levels;
        categories = simp length-set l.categories;
        datatypes = simp length-set l.datatypes;
        flags = simp length-set l.flags;
        parents = simp length-set l.parents;
        sets = simp length-set l.sets;
      };
      processes = s.processes;
      opens = s.opens;
      refusals = s.refusals;
    }

pub shaped_drop : (f : Facility) (t : ℕ) → Shaped f → Shaped (drop_object f t)
unfolding drop_object
shaped_drop f t s =
    let l = s.objects in
    record {
      users = s.users;
      objects = record {
        lives = simp length-set l.lives;
        kinds = l.kinds;
        levels = l.levels;
        categories = l.categories;
        datatypes = l.datatypes;
        flags = l.flags;
        parents = l.parents;
        sets = l.sets;
      };
      processes = s.processes;
      opens = s.opens;
      refusals = s.refusals;
    }

pub shaped_refusals : (f : Facility) (l : List ℕ) → length l ≡ most_users → Shaped f → Shaped (put_refusals f l)
unfolding put_refusals
shaped_refusals f l e s = record { users = s.users; objects = s.objects; processes = s.processes; opens = s.opens; refusals = e }

pub shaped_counted : (f : Facility) (u : ℕ) → Shaped f → Shaped (counted f u)
unfolding counted
shaped_counted f u s = shaped_refusals f _ (simp length-set s.refusals) s

pub opens_at : (f : Facility) (p t : ℕ) → t < most_objects → opens_of f p t ≡ at f.opens (place p t)
unfolding opens_of
opens_at f p t h = rw (mark_place_law p t h)

pub opens_put : (f : Facility) (l : List ℕ) (p t : ℕ) → t < most_objects → opens_of (put_opens f l) p t ≡ at l (place p t)
unfolding put_opens
opens_put f l p t h = opens_at (put_opens f l) p t h

-- a number that is none changes nothing
pub process_out : (f : Facility) (p : ℕ) (r : Process) → ProcessesShaped (processes_in f) → most_processes ≤ p → put_process f p r ≡ f
unfolding put_process
process_out f p r s h =
    λ i. with f f.users (users_in f) f.entered (objects_in f)
    (processes_from
    (out f.runnings r.running s.runnings i)
    (out f.owners r.owner s.owners i)
    (out f.currents r.current.level s.currents i)
    (out f.readmarks r.readmark.level s.readmarks i)
    (out f.writemarks r.writemark.level s.writemarks i)
    (out f.automatics r.automatic s.automatics i)
    (out f.moves r.moves s.moves i)
    (out f.currentsets r.current.set s.currentsets i)
    (out f.readsets r.readmark.set s.readsets i)
    (out f.writesets r.writemark.set s.writesets i))
    f.opens f.refusals
  where
    out : (l : List ℕ) (v : ℕ) → length l ≡ most_processes → set l p v ≡ l
    out l v e = set_out l p v (omega arith)

pub opens_out : (f : Facility) (n v : ℕ) → length f.opens ≡ most_opens → most_opens ≤ n → put_opens f (set f.opens n v) ≡ f
unfolding put_opens
opens_out f n v e h =
    λ i. with f f.users (users_in f) f.entered (objects_in f) (processes_in f) (set_out f.opens n v (omega arith) i) f.refusals

-- a counter with a stop: it stays what its count is, up to the stop
pub one_more_law : (most n d : ℕ) → n ≡ min d most → one_more most n ≡ min (1 + d) most
one_more_law most n d h =
    by_test (ltb n most)
    (λ e. rw e (let b : n < most = ltb-true n most e in omega arith))
    (λ e. rw e (let b : most ≤ n = ltb-false n most e in omega arith))

-- a refusal of user u is one more of u's, and of no other's
pub counted_own : (f : Facility) (u : ℕ) → Shaped f → u < most_users → refusals_of (counted f u) u ≡ one_more most_refusals (refusals_of f u)
unfolding counted put_refusals
counted_own f u s h = at_same f.refusals u _ most_users s.refusals h

pub counted_other : (f : Facility) (u v : ℕ) → v ≢ u → refusals_of (counted f u) v ≡ refusals_of f v
unfolding counted put_refusals
counted_other f u v n = at_other f.refusals u v _ n

-- a counter at its stop stays, and so do all where there is no such user
pub counted_stays : (f : Facility) (u : ℕ) → most_refusals ≤ refusals_of f u → counted f u ≡ f
unfolding counted put_refusals
counted_stays f u h = rw (le-ltb _ _ h) (ap (put_refusals f) (set-get_or f.refusals u 0))

pub counted_none : (f : Facility) (u : ℕ) → length f.refusals ≡ most_users → most_users ≤ u → counted f u ≡ f
unfolding counted put_refusals
counted_none f u e h = ap (put_refusals f) (set_out f.refusals u _ (omega arith))

-- marks that are put back as they were
pub marks_kept : (f : Facility) (p t : ℕ) → put_marks f p t (opens_of f p t) ≡ f
unfolding put_opens opens_of
marks_kept f p t = ap (put_opens f) (set-get_or f.opens (mark_place p t) 0)

pub drop_out : (f : Facility) (t : ℕ) → length f.lives ≡ most_objects → most_objects ≤ t → drop_object f t ≡ f
unfolding drop_object
drop_out f t e h =
    λ i. with f f.users (users_in f) f.entered
    (objects_from (set_out f.lives t 0 (omega arith) i) f.kinds f.levels f.categories f.datatypes f.flags f.parents
    f.sets)
    (processes_in f) f.opens f.refusals

-- a process that is none is put, and its marks become g of what they were
pub marks_of_none : (f : Facility) (p t : ℕ) (g : ℕ → ℕ) (r : Process) → ProcessesShaped (processes_in f) → length f.opens ≡ most_opens
    → most_processes ≤ p → put_marks (put_process f p r) p t (g (opens_of (put_process f p r) p t)) ≡ f
marks_of_none f p t g r s n h =
    ap (λ (x : Facility). put_marks x p t (g (opens_of x p t))) (process_out f p r s h) ∙ opens_out f _ _ n (no_process_place p t h)

-- the same of a facility
pub deleted_out : (f : Facility) (t : ℕ) → length f.lives ≡ most_objects → most_objects ≤ t → deleted f t ≡ f
unfolding put_opens
deleted_out f t m h = ap (λ (l : List ℕ). drop_object (put_opens f l) t) (sym (no_object_closed f.opens t h)) ∙ drop_out f t m h

pub opens_kept : (f : Facility) (l : List ℕ) → f.opens ≡ l → f ≡ put_opens f l
unfolding put_opens
opens_kept f l e = ap (λ (x : List ℕ). put_opens f x) e
