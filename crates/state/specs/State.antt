-- "State": what is read off a facility, and the few ways in which it changes.
pub use Rattle.state.specs.declared.Facility.{Facility}
pub use Rattle.state.specs.declared.Process.{Process}
pub use Rattle.state.specs.declared.Object.{Object}
pub use Rattle.state.specs.declared.User.{User}
pub use Rattle.state.specs.declared.Call.{Call}
pub use Rattle.state.specs.declared.Switches.{Switches}
pub use Rattle.state.specs.declared.Change.{Change}
pub use Rattle.state.specs.declared.Change.TheVariants.{NoChange, PutProcess, CloneProcess, EndProcess, UseObject, CreateObject, EnterObject}
pub use Rattle.state.specs.declared.Change.TheVariants.{CountRefusal}
pub use Rattle.opens.specs.declared.OpenChange.{OpenChange}
pub use Rattle.opens.specs.declared.OpenChange.TheVariants.{Keep, Add, Close, CloseAll}
use Rattle.std.specs.Prelude.{ℕ, ◌+◌, List, Bool, cond, ltb, set, replicate}
use Rattle.labels.specs.Decisions.{at, on}
use Rattle.labels.specs.Labels.{label, Label, bottom, top}
use Rattle.opens.specs.Opens.{mark_place, most_objects, copy_process, marks_after, close_object, close_process, most_processes, most_opens}

-- users are 0..15, processes 0..31, object numbers 0..127
abbrev pub most_users : ℕ
most_users = 16

-- where each counter of refusals stops
abbrev pub most_refusals : ℕ
most_refusals = 4294967295

-- where the counter of a process's moves stops
abbrev pub most_moves : ℕ
most_moves = 255

-- The parts of a facility: its users, objects and processes.
pub record Users : Type 0 where
  pub clearances : List ℕ
  pub roles : List ℕ
  pub trusts : List ℕ
  pub clearancesets : List ℕ

pub record Objects : Type 0 where
  pub lives : List ℕ
  pub kinds : List ℕ
  pub levels : List ℕ
  pub categories : List ℕ
  pub datatypes : List ℕ
  pub flags : List ℕ
  pub parents : List ℕ
  pub sets : List ℕ

pub record Processes : Type 0 where
  pub runnings : List ℕ
  pub owners : List ℕ
  pub currents : List ℕ
  pub readmarks : List ℕ
  pub writemarks : List ℕ
  pub automatics : List ℕ
  pub moves : List ℕ
  pub currentsets : List ℕ
  pub readsets : List ℕ
  pub writesets : List ℕ

abbrev pub users_from : List ℕ → List ℕ → List ℕ → List ℕ → Users
users_from a b c d = record { clearances = a; roles = b; trusts = c; clearancesets = d }

abbrev pub objects_from : List ℕ → List ℕ → List ℕ → List ℕ → List ℕ → List ℕ → List ℕ → List ℕ → Objects
objects_from a b c d e f g h = record { lives = a; kinds = b; levels = c; categories = d; datatypes = e; flags = f; parents = g; sets = h }

abbrev pub processes_from : List ℕ → List ℕ → List ℕ → List ℕ → List ℕ → List ℕ → List ℕ → List ℕ → List ℕ → List ℕ → Processes
processes_from a b c d e f g h i j =
    record {
      runnings = a;
      owners = b;
      currents = c;
      readmarks = d;
      writemarks = e;
      automatics = f;
      moves = g;
      currentsets = h;
      readsets = i;
      writesets = j;
    }

abbrev pub users_in : Facility → Users
users_in f = users_from f.clearances f.roles f.trusts f.clearancesets

abbrev pub objects_in : Facility → Objects
objects_in f = objects_from f.lives f.kinds f.levels f.categories f.datatypes f.flags f.parents f.sets

abbrev pub processes_in : Facility → Processes
processes_in f =
    processes_from f.runnings f.owners f.currents f.readmarks f.writemarks f.automatics f.moves f.currentsets f.readsets
    f.writesets

-- What is read off a facility: process p, object t and user u, out of their arrays.
unfoldable pub process_in : Processes → ℕ → Process
process_in x p =
    record {
      running = at x.runnings p;
      owner = at x.owners p;
      current = label (at x.currents p) (at x.currentsets p);
      readmark = label (at x.readmarks p) (at x.readsets p);
      writemark = label (at x.writemarks p) (at x.writesets p);
      automatic = at x.automatics p;
      moves = at x.moves p;
    }

unfoldable pub object_in : Objects → ℕ → Object
object_in x t =
    record {
      live = at x.lives t;
      kind = at x.kinds t;
      label = label (at x.levels t) (at x.sets t);
      category = at x.categories t;
      datatype = at x.datatypes t;
      flags = at x.flags t;
      parent = at x.parents t;
    }

unfoldable pub user_in : Users → ℕ → User
user_in x u =
    record {
      clearance = label (at x.clearances u) (at x.clearancesets u);
      role = at x.roles u;
      trusted = at x.trusts u;
    }

abbrev pub process_of : Facility → ℕ → Process
process_of f p = process_in (processes_in f) p

abbrev pub object_of : Facility → ℕ → Object
object_of f t = object_in (objects_in f) t

abbrev pub user_of : Facility → ℕ → User
user_of f u = user_in (users_in f) u

-- its switches, and those with all off
abbrev pub switches_of : Facility → Switches
switches_of f = record { mac = f.mac; fc = f.fc; sim = f.sim; ff = f.ff }

abbrev pub all_off : Switches
all_off = record { mac = 0; fc = 0; sim = 0; ff = 0 }

-- whether process p runs, object t is live, u is a user, and u is a trusted one
abbrev pub runs : Facility → ℕ → Bool
runs f p = on (process_of f p).running

abbrev pub live : Facility → ℕ → Bool
live f t = on (object_of f t).live

abbrev pub is_user : Facility → ℕ → Bool
is_user f u = ltb u f.users

abbrev pub trusted_user : Facility → ℕ → Bool
trusted_user f u = on (user_of f u).trusted

abbrev pub label_of : Facility → ℕ → Label
label_of f t = (object_of f t).label

abbrev pub clearance_of : Facility → ℕ → Label
clearance_of f u = (user_of f u).clearance

abbrev pub is_automatic : Process → Bool
is_automatic r = on r.automatic

-- how many calls were refused with 12 or 13 whose caller user u owned
abbrev pub refusals_of : Facility → ℕ → ℕ
refusals_of f u = at f.refusals u

unfoldable pub opens_of : Facility → ℕ → ℕ → ℕ
opens_of f p t = at f.opens (mark_place p t)

-- the facility with f's switches, and these counts and parts
abbrev pub with : Facility → ℕ → Users → ℕ → Objects → Processes → List ℕ → List ℕ → Facility
with f users us entered os ps opens refusals =
    record {
      mac = f.mac;
      fc = f.fc;
      sim = f.sim;
      users = users;
      clearances = us.clearances;
      roles = us.roles;
      trusts = us.trusts;
      entered = entered;
      lives = os.lives;
      kinds = os.kinds;
      levels = os.levels;
      categories = os.categories;
      datatypes = os.datatypes;
      runnings = ps.runnings;
      owners = ps.owners;
      currents = ps.currents;
      readmarks = ps.readmarks;
      writemarks = ps.writemarks;
      automatics = ps.automatics;
      opens = opens;
      refusals = refusals;
      ff = f.ff;
      flags = os.flags;
      parents = os.parents;
      moves = ps.moves;
      clearancesets = us.clearancesets;
      sets = os.sets;
      currentsets = ps.currentsets;
      readsets = ps.readsets;
      writesets = ps.writesets;
    }

-- The ways in which a facility changes: a process, the opens, a new user, a new object, a dropped object, the counters.
unfoldable pub put_process : Facility → ℕ → Process → Facility
put_process f p r =
    with f f.users (users_in f) f.entered (objects_in f)
    (processes_from
    (set f.runnings p r.running)
    (set f.owners p r.owner)
    (set f.currents p r.current.level)
    (set f.readmarks p r.readmark.level)
    (set f.writemarks p r.writemark.level)
    (set f.automatics p r.automatic)
    (set f.moves p r.moves)
    (set f.currentsets p r.current.set)
    (set f.readsets p r.readmark.set)
    (set f.writesets p r.writemark.set))
    f.opens f.refusals

unfoldable pub put_opens : Facility → List ℕ → Facility
put_opens f l = with f f.users (users_in f) f.entered (objects_in f) (processes_in f) l f.refusals

-- the marks of process p on object t
abbrev pub put_marks : Facility → ℕ → ℕ → ℕ → Facility
put_marks f p t v = put_opens f (set f.opens (mark_place p t) v)

-- the user with the next number
unfoldable pub put_user : Facility → User → Facility
put_user f u =
    with f (f.users + 1)
    (users_from
    (set f.clearances f.users u.clearance.level)
    (set f.roles f.users u.role)
    (set f.trusts f.users u.trusted)
    (set f.clearancesets f.users u.clearance.set))
    f.entered (objects_in f) (processes_in f) f.opens f.refusals

-- the object with the next number
unfoldable pub put_object : Facility → Object → Facility
put_object f o =
    with f f.users (users_in f) (f.entered + 1)
    (objects_from
    (set f.lives f.entered o.live)
    (set f.kinds f.entered o.kind)
    (set f.levels f.entered o.label.level)
    (set f.categories f.entered o.category)
    (set f.datatypes f.entered o.datatype)
    (set f.flags f.entered o.flags)
    (set f.parents f.entered o.parent)
    (set f.sets f.entered o.label.set))
    (processes_in f) f.opens f.refusals

-- one more user, and one more object, where there is room
unfoldable pub add_user : Facility → User → Facility
add_user f u = cond (ltb f.users most_users) (put_user f u) f

unfoldable pub add_object : Facility → Object → Facility
add_object f o = cond (ltb f.entered most_objects) (put_object f o) f

-- a deleted object keeps its number and what else it had
unfoldable pub drop_object : Facility → ℕ → Facility
drop_object f t =
    with f f.users (users_in f) f.entered
    (objects_from (set f.lives t 0) f.kinds f.levels f.categories f.datatypes f.flags f.parents f.sets)
    (processes_in f) f.opens f.refusals

unfoldable pub put_refusals : Facility → List ℕ → Facility
put_refusals f l = with f f.users (users_in f) f.entered (objects_in f) (processes_in f) f.opens l

-- one more of what is counted; at its stop `most` a counter stays
abbrev pub one_more : ℕ → ℕ → ℕ
one_more most n = cond (ltb n most) (n + 1) n

-- one more refusal of user u
unfoldable pub counted : Facility → ℕ → Facility
counted f u = put_refusals f (set f.refusals u (one_more most_refusals (refusals_of f u)))

-- login: current 0, read mark 0, write mark 15 with all categories, automatic on, no move yet
unfoldable pub fresh_process : ℕ → Process
fresh_process u =
    record { running = 1; owner = u; current = bottom; readmark = bottom; writemark = top; automatic = 1; moves = 0 }

-- r with this current level, read mark and write mark, automatic so, and so many moves; all else stays
abbrev pub with_levels : Process → Label → Label → Label → ℕ → ℕ → Process
with_levels r current readmark writemark automatic moves =
    record {
      running = r.running;
      owner = r.owner;
      current = current;
      readmark = readmark;
      writemark = writemark;
      automatic = automatic;
      moves = moves;
    }

-- the process of a number that does not run: nothing is kept of it
unfoldable pub no_process : Process
no_process =
    record { running = 0; owner = 0; current = bottom; readmark = bottom; writemark = bottom; automatic = 0; moves = 0 }

-- What requests make of a facility: process t becomes a clone of p; the marks of p on t change; p opens t in the modes m; p closes t; t is
-- deleted; p terminates.
abbrev pub cloned : Facility → ℕ → ℕ → Facility
cloned f p t = put_opens (put_process f t (process_of f p)) (copy_process f.opens p t)

abbrev pub marked : Facility → ℕ → ℕ → OpenChange → Facility
marked f p t change = put_marks f p t (marks_after change (opens_of f p t))

abbrev pub opened : Facility → ℕ → ℕ → ℕ → Facility
opened f p t m = marked f p t (Add m)

abbrev pub closed : Facility → ℕ → ℕ → Facility
closed f p t = marked f p t Close

abbrev pub deleted : Facility → ℕ → Facility
deleted f t = drop_object (put_opens f (close_object f.opens t)) t

abbrev pub terminated : Facility → ℕ → Facility
terminated f p = put_opens (put_process f p no_process) (close_process f.opens p)

-- opens add their modes, close drops both, delete drops the object and all opens on it
unfoldable pub open_by : OpenChange → Facility → ℕ → ℕ → Facility
open_by Keep f p t = f
open_by (Add m) f p t = opened f p t m
open_by Close f p t = closed f p t
open_by CloseAll f p t = deleted f t

-- What a call changes, and the facility after it.
abbrev pub changed : Facility → Change → Facility
changed f NoChange = f
changed f (PutProcess p r) = put_process f p r
changed f (CloneProcess p t) = cloned f p t
changed f (EndProcess p) = terminated f p
changed f (UseObject p r t o) = open_by o (put_process f p r) p t
changed f (CreateObject p r o) = add_object (put_process f p r) o
changed f (EnterObject o) = add_object f o
changed f (CountRefusal u) = counted f u

-- with these switches: no user, no object, no process, no refusal
unfoldable pub blank : Switches → Facility
blank s =
    record {
      mac = s.mac;
      fc = s.fc;
      sim = s.sim;
      users = 0;
      clearances = replicate most_users 0;
      roles = replicate most_users 0;
      trusts = replicate most_users 0;
      entered = 0;
      lives = replicate most_objects 0;
      kinds = replicate most_objects 0;
      levels = replicate most_objects 0;
      categories = replicate most_objects 0;
      datatypes = replicate most_objects 0;
      runnings = replicate most_processes 0;
      owners = replicate most_processes 0;
      currents = replicate most_processes 0;
      readmarks = replicate most_processes 0;
      writemarks = replicate most_processes 0;
      automatics = replicate most_processes 0;
      opens = replicate most_opens 0;
      refusals = replicate most_users 0;
      ff = s.ff;
      flags = replicate most_objects 0;
      parents = replicate most_objects 0;
      moves = replicate most_processes 0;
      clearancesets = replicate most_users 0;
      sets = replicate most_objects 0;
      currentsets = replicate most_processes 0;
      readsets = replicate most_processes 0;
      writesets = replicate most_processes 0;
    }
