-- "Effects when enforced": the facility after an accepted call.
use Rattle.std.specs.Prelude.{ℕ, ◌+◌, cond, ltb}
use Rattle.labels.specs.Decisions.{◌and◌}
use Rattle.opens.specs.Opens.{most_objects}
use Rattle.rules.specs.Types.{Call, Process, Object, Facility, Change, NoChange, PutProcess, CloneProcess, EndProcess, UseObject, CreateObject}
use Rattle.rules.specs.Types.{EnterObject}
use Rattle.state.specs.State.{changed, fresh_process}
use Rattle.rules.specs.Requests.{Action, Login, Clone, SendSignal, SetLevel, Terminate, Create, OnObject, Unknown, in_directory, open_change}
use Rattle.rules.specs.Modules.{View, view_of, moved, levelled, signalled, general_category}
use Rattle.rules.specs.FileFlags.{add_inherited}

-- a created file or directory has add-inherited and its directory t as parent, another object neither
unfoldable pub first_flags : ℕ → ℕ
first_flags e = cond (in_directory e) add_inherited 0

unfoldable pub first_parent : ℕ → ℕ → ℕ
first_parent e t = cond (in_directory e and ltb t most_objects) (t + 1) 0

-- an object of kind e, label the process's current one, category general, data type none
abbrev pub created : Process → ℕ → ℕ → Object
created r e t =
    record {
      live = 1;
      kind = e;
      label = r.current;
      category = general_category;
      datatype = 0;
      flags = first_flags e;
      parent = first_parent e t;
    }

-- what an accepted call changes, by what its request acts on; v is what the call looks at
abbrev pub change_of : Action → View → Call → Change
change_of Login v c = PutProcess c.process (fresh_process c.extra)
change_of Clone v c = CloneProcess c.process c.target
change_of SendSignal v c = PutProcess c.target (signalled v)
change_of SetLevel v c = PutProcess c.process (levelled v c)
change_of Terminate v c = EndProcess c.process
change_of Create v c =
    cond (in_directory c.extra)
    (CreateObject c.process (moved v c) (created (moved v c) c.extra c.target))
    (EnterObject (created v.caller c.extra c.target))
change_of OnObject v c = UseObject c.process (moved v c) c.target (open_change c.request)
change_of Unknown v c = NoChange

unfoldable pub effect_from : Action → Facility → View → Call → Facility
effect_from k f v c = changed f (change_of k v c)

abbrev pub effect_by : Action → Facility → Call → Facility
effect_by k f c = effect_from k f (view_of f c) c
