-- "Calls": the requests, and the class of a request by the kind of its object.
pub use Rattle.rules.specs.declared.Action.{Action}
pub use Rattle.rules.specs.declared.Action.TheVariants.{Login, Clone, SendSignal, SetLevel, Terminate, Create, OnObject, Unknown}
pub use Rattle.rules.specs.declared.Class.{Class}
pub use Rattle.rules.specs.declared.Class.TheVariants.{Absent, Reads, Writes, Both, NoCondition}
pub use Rattle.opens.specs.declared.OpenChange.{OpenChange}
pub use Rattle.opens.specs.declared.OpenChange.TheVariants.{Keep, Add, Close, CloseAll}
use Rattle.std.specs.Prelude.{ℕ, ◌/◌, ◌%◌, Bool, not, cond, List, [], ◌∷◌, leb, eqb}
use Rattle.labels.specs.Decisions.{◌or◌}

-- The requests by their numbers. The lists of classes below keep the paper's numbers, since they are read beside it.
abbrev pub alter_request : ℕ
alter_request = 0

abbrev pub change_owner_request : ℕ
change_owner_request = 1

abbrev pub clone_request : ℕ
clone_request = 2

abbrev pub close_request : ℕ
close_request = 3

abbrev pub create_request : ℕ
create_request = 4

abbrev pub delete_request : ℕ
delete_request = 5

abbrev pub delete_data_request : ℕ
delete_data_request = 6

abbrev pub execute_request : ℕ
execute_request = 7

abbrev pub get_permissions_data_request : ℕ
get_permissions_data_request = 8

abbrev pub get_status_data_request : ℕ
get_status_data_request = 9

abbrev pub modify_access_data_request : ℕ
modify_access_data_request = 10

abbrev pub modify_permissions_data_request : ℕ
modify_permissions_data_request = 11

abbrev pub read_request : ℕ
read_request = 12

abbrev pub read_open_request : ℕ
read_open_request = 13

abbrev pub read_write_open_request : ℕ
read_write_open_request = 14

abbrev pub search_request : ℕ
search_request = 15

abbrev pub send_signal_request : ℕ
send_signal_request = 16

abbrev pub set_level_request : ℕ
set_level_request = 17

abbrev pub terminate_request : ℕ
terminate_request = 18

abbrev pub write_request : ℕ
write_request = 19

abbrev pub write_open_request : ℕ
write_open_request = 20

abbrev pub login_request : ℕ
login_request = 21

-- the last one
abbrev pub last_request : ℕ
last_request = login_request

-- the kinds of objects, and the last one
abbrev pub file_kind : ℕ
file_kind = 0

abbrev pub directory_kind : ℕ
directory_kind = 1

abbrev pub channel_kind : ℕ
channel_kind = 2

abbrev pub control_data_kind : ℕ
control_data_kind = 3

abbrev pub last_kind : ℕ
last_kind = control_data_kind

-- what a request acts on: those that are not named act on an object, up to the last one
unfoldable pub action_of : ℕ → Action
action_of r =
    cond (eqb r clone_request) Clone
    (cond (eqb r create_request) Create
    (cond (eqb r send_signal_request) SendSignal
    (cond (eqb r set_level_request) SetLevel
    (cond (eqb r terminate_request) Terminate
    (cond (eqb r login_request) Login
    (cond (leb r last_request) OnObject Unknown))))))

-- Classes by kind: R reads, W writes, B both, N no condition. A line of the paper's list.
pub record Listed : Type 0 where
  pub request : ℕ
  pub class : Class

infix 80 ◌is◌
abbrev pub ◌is◌ : ℕ → Class → Listed
r is k = record { request = r; class = k }

unfoldable pub files : List Listed
files =
    5 is Writes ∷ 6 is Writes ∷ 7 is Reads ∷ 12 is NoCondition ∷ 13 is Reads ∷ 14 is Both ∷ 19 is NoCondition ∷ 20 is Writes
    ∷ 3 is NoCondition ∷ []

unfoldable pub directories : List Listed
directories = 4 is Writes ∷ 5 is Writes ∷ 12 is Reads ∷ 15 is Reads ∷ 19 is Writes ∷ []

unfoldable pub channels : List Listed
channels = 0 is Writes ∷ 5 is Writes ∷ 12 is NoCondition ∷ 14 is Both ∷ 19 is NoCondition ∷ 3 is NoCondition ∷ []

unfoldable pub control_data : List Listed
control_data = 1 is Writes ∷ 5 is Writes ∷ 8 is Reads ∷ 9 is Reads ∷ 10 is Writes ∷ 11 is Writes ∷ []

-- the list of a kind
unfoldable pub list_of : ℕ → List Listed
list_of kind =
    cond (eqb kind file_kind) files
    (cond (eqb kind directory_kind) directories
    (cond (eqb kind channel_kind) channels
    (cond (eqb kind control_data_kind) control_data [])))

-- the class of request r in a list; a request that is not listed has none
unfoldable pub class_among : ℕ → List Listed → Class
class_among r [] = Absent
class_among r (x ∷ xs) = cond (eqb x.request r) x.class (class_among r xs)

unfoldable pub class_of : ℕ → ℕ → Class
class_of r kind = class_among r (list_of kind)

-- the code of a class: 1 is in it where the class reads, 2 where it writes
abbrev pub class_code : Class → ℕ
class_code Absent = 0
class_code Reads = 1
class_code Writes = 2
class_code Both = 3
class_code NoCondition = 4

abbrev pub is_absent : Class → Bool
is_absent k = eqb (class_code k) 0

abbrev pub is_no_condition : Class → Bool
is_no_condition k = eqb (class_code k) 4

-- class R or B
abbrev pub observes : Class → Bool
observes k = eqb (class_code k % 2) 1

-- class W or B
abbrev pub alters : Class → Bool
alters k = eqb (class_code k / 2) 1

-- The number of the request that acts so; of a request on an object, which many are, and of no request, numbers that will be no request's.
abbrev pub on_object_code : ℕ
on_object_code = 254

abbrev pub unknown_code : ℕ
unknown_code = 255

abbrev pub action_code : Action → ℕ
action_code Clone = clone_request
action_code Create = create_request
action_code SendSignal = send_signal_request
action_code SetLevel = set_level_request
action_code Terminate = terminate_request
action_code Login = login_request
action_code OnObject = on_object_code
action_code Unknown = unknown_code

abbrev pub is_clone : Action → Bool
is_clone k = eqb (action_code k) clone_request

abbrev pub is_create : Action → Bool
is_create k = eqb (action_code k) create_request

abbrev pub is_send_signal : Action → Bool
is_send_signal k = eqb (action_code k) send_signal_request

abbrev pub is_set_level : Action → Bool
is_set_level k = eqb (action_code k) set_level_request

abbrev pub is_login : Action → Bool
is_login k = eqb (action_code k) login_request

-- a request on an object, other than create
abbrev pub is_on_object : Action → Bool
is_on_object k = eqb (action_code k) on_object_code

-- whether an object of kind e is created in a directory: a channel and control data are not
abbrev pub in_directory : ℕ → Bool
in_directory e = not (eqb e channel_kind or eqb e control_data_kind)

-- an object target is needed by all but clone, send-signal, set-level, terminate, login and create of a channel or control data
abbrev pub needs_object : Action → ℕ → Bool
needs_object k e = cond (is_create k) (in_directory e) (is_on_object k)

-- what a request on an object does to the opens: the three that open add their modes (1 reading, 2 writing), close, delete
unfoldable pub open_change : ℕ → OpenChange
open_change r =
    cond (eqb r read_open_request) (Add 1)
    (cond (eqb r read_write_open_request) (Add 3)
    (cond (eqb r write_open_request) (Add 2)
    (cond (eqb r close_request) Close
    (cond (eqb r delete_request) CloseAll Keep))))
