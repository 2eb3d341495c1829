-- What a call looks at, as far as it asks for it.
use Rattle.std.specs.Prelude.{ℕ, cond, eqb}
use Rattle.labels.specs.Labels.{label}
use Rattle.rules.specs.declared.Action.{Action}
use Rattle.rules.specs.declared.Looked.{Looked}
use Rattle.rules.specs.declared.Target.{Target}
use Rattle.rules.specs.declared.View.{View}
use Rattle.rules.specs.FileFlags.{all_flags, forbidding}
use Rattle.rules.specs.Modules.{flags_seen, view_of}
use Rattle.rules.specs.Requests.{action_of, class_of, is_send_signal}
use Rattle.state.specs.declared.Call.{Call}
use Rattle.state.specs.declared.Facility.{Facility}
use Rattle.state.specs.declared.User.{User}
use Rattle.state.specs.State.{no_process, object_of, opens_of, process_of, user_of}

-- the effective flags of the target, where all flags together would forbid the request
abbrev pub flags_asked : Facility → Call → ℕ
flags_asked f c =
    cond (eqb (forbidding all_flags c.request (class_of c.request (object_of f c.target).kind) (object_of f c.target).kind) 0) 0
    (flags_seen f c.target)

-- what a call asks for of what the modules look up in tables
abbrev pub looked_asked : Facility → Call → Looked
looked_asked f c = record { flags = flags_asked f c }

-- the owner of a process that is not looked at
abbrev pub no_user : User
no_user = record { clearance = label 0 0; role = 0; trusted = 0 }

-- the target of a call, whose request acts on k: as a process, with its owner, for a signal alone
abbrev pub target_asked : Action → Facility → Call → Target
target_asked k f c =
    record {
      receiver = cond (is_send_signal k) (process_of f c.target) no_process;
      object = object_of f c.target;
      opens = opens_of f c.process c.target;
      owner = cond (is_send_signal k) (user_of f (process_of f c.target).owner) no_user;
    }

-- v with target t, and l for what the modules look up
abbrev pub view_with : View → Target → Looked → View
view_with v t l =
    record {
      switches = v.switches;
      users = v.users;
      entered = v.entered;
      caller = v.caller;
      owner = v.owner;
      target = t;
      looked = l;
    }

-- what a call looks at, as far as it asks for it
abbrev pub view_by : Action → Facility → Call → View
view_by k f c = view_with (view_of f c) (target_asked k f c) (looked_asked f c)

abbrev pub view_asked : Facility → Call → View
view_asked f c = view_by (action_of c.request) f c
