-- "Calls": what each request acts on, the class of each request by each kind, and what a request does to the opens.
use Rattle.std.specs.Prelude.{ℕ, ◌≡◌, refl, true, false, List, [], ◌∷◌, ◌++◌, map}
use Rattle.rules.specs.Computed.{everything, numbers_below}
use Rattle.rules.specs.Requests.{Action, Login, Clone, SendSignal, SetLevel, Terminate, Create, OnObject, Unknown, is_login, is_clone, is_send_signal}
use Rattle.rules.specs.Requests.{is_set_level, is_create, needs_object, action_of, Class, Absent, Reads, Writes, Both, NoCondition, class_of, is_absent}
use Rattle.rules.specs.Requests.{is_no_condition, observes, alters, Keep, Add, Close, CloseAll, open_change}
use Rattle.rules.specs.Requests.{alter_request, change_owner_request, clone_request, close_request, create_request, delete_request, delete_data_request}
use Rattle.rules.specs.Requests.{execute_request, get_permissions_data_request, get_status_data_request, modify_access_data_request}
use Rattle.rules.specs.Requests.{modify_permissions_data_request, read_request, read_open_request, read_write_open_request, search_request, send_signal_request}
use Rattle.rules.specs.Requests.{set_level_request, terminate_request, write_request, write_open_request, login_request}
use Rattle.rules.specs.Requests.{file_kind, directory_kind, channel_kind, control_data_kind}

-- the names of the requests and of the kinds of objects, in the paper's order
pub in_order :
    (alter_request ∷ change_owner_request ∷ clone_request ∷ close_request ∷ create_request ∷ delete_request ∷ delete_data_request ∷ execute_request
    ∷ get_permissions_data_request ∷ get_status_data_request ∷ modify_access_data_request ∷ modify_permissions_data_request ∷ read_request ∷ read_open_request
    ∷ read_write_open_request ∷ search_request ∷ send_signal_request ∷ set_level_request ∷ terminate_request
    ∷ write_request ∷ write_open_request ∷ login_request ∷ [])
    ∷ (file_kind ∷ directory_kind ∷ channel_kind ∷ control_data_kind ∷ [])
    ∷ []
    ≡ numbers_below 22 ∷ numbers_below 4 ∷ []
in_order = refl

-- "2 clone, 4 create, 16 send-signal, 17 set-level, 18 terminate, 21 login"; the others up to 21 act on an object
pub request_targets :
    map action_of (numbers_below 23) ++ (action_of 255 ∷ [])
    ≡ OnObject ∷ OnObject ∷ Clone ∷ OnObject ∷ Create ∷ OnObject ∷ OnObject ∷ OnObject
    ∷ OnObject ∷ OnObject ∷ OnObject ∷ OnObject ∷ OnObject ∷ OnObject ∷ OnObject ∷ OnObject
    ∷ SendSignal ∷ SetLevel ∷ Terminate ∷ OnObject ∷ OnObject ∷ Login ∷ Unknown ∷ Unknown ∷ []
unfolding everything
request_targets = refl

-- the paper's letters; no, where the kind does not have the request
abbrev R : Class
R = Reads

abbrev W : Class
W = Writes

abbrev B : Class
B = Both

abbrev N : Class
N = NoCondition

abbrev no : Class
no = Absent

-- the classes of the requests 0 to 22 on objects of this kind
abbrev row : ℕ → List Class
row kind = map (λ r. class_of r kind) (numbers_below 23)

pub class_table :
    row 0 ∷ row 1 ∷ row 2 ∷ row 3 ∷ row 4 ∷ []
    -- file: 5 W, 6 W, 7 R, 12 N, 13 R, 14 B, 19 N, 20 W, 3 N
    ≡ (no ∷ no ∷ no ∷ N ∷ no ∷ W ∷ W ∷ R ∷ no ∷ no ∷ no ∷ no ∷ N ∷ R ∷ B ∷ no ∷ no ∷ no ∷ no ∷ N ∷ W ∷ no ∷ no ∷ [])
    -- directory: 4 W, 5 W, 12 R, 15 R, 19 W
    ∷ (no ∷ no ∷ no ∷ no ∷ W ∷ W ∷ no ∷ no ∷ no ∷ no ∷ no ∷ no ∷ R ∷ no ∷ no ∷ R ∷ no ∷ no ∷ no ∷ W ∷ no ∷ no ∷ no ∷ [])
    -- channel: 0 W, 5 W, 12 N, 14 B, 19 N, 3 N
    ∷ (W ∷ no ∷ no ∷ N ∷ no ∷ W ∷ no ∷ no ∷ no ∷ no ∷ no ∷ no ∷ N ∷ no ∷ B ∷ no ∷ no ∷ no ∷ no ∷ N ∷ no ∷ no ∷ no ∷ [])
    -- control data: 1 W, 5 W, 8 R, 9 R, 10 W, 11 W
    ∷ (no ∷ W ∷ no ∷ no ∷ no ∷ W ∷ no ∷ no ∷ R ∷ R ∷ W ∷ W ∷ no ∷ no ∷ no ∷ no ∷ no ∷ no ∷ no ∷ no ∷ no ∷ no ∷ no ∷ [])
    -- there is no other kind
    ∷ (no ∷ no ∷ no ∷ no ∷ no ∷ no ∷ no ∷ no ∷ no ∷ no ∷ no ∷ no ∷ no ∷ no ∷ no ∷ no ∷ no ∷ no ∷ no ∷ no ∷ no ∷ no ∷ no ∷ [])
    ∷ []
unfolding everything
class_table = refl

-- the tests of a class
abbrev classes : List Class
classes = no ∷ R ∷ W ∷ B ∷ N ∷ []

pub class_tests :
    map is_absent classes ∷ map is_no_condition classes ∷ map observes classes ∷ map alters classes ∷ []
    ≡ (true ∷ false ∷ false ∷ false ∷ false ∷ [])
    ∷ (false ∷ false ∷ false ∷ false ∷ true ∷ [])
    -- R or B
    ∷ (false ∷ true ∷ false ∷ true ∷ false ∷ [])
    -- W or B
    ∷ (false ∷ false ∷ true ∷ true ∷ false ∷ [])
    ∷ []
unfolding everything
class_tests = refl

-- the tests of what a request acts on
abbrev requests : List Action
requests = Login ∷ Clone ∷ SendSignal ∷ SetLevel ∷ Terminate ∷ Create ∷ OnObject ∷ Unknown ∷ []

pub request_tests :
    map is_login requests ∷ map is_clone requests ∷ map is_send_signal requests ∷ map is_set_level requests ∷ map is_create requests ∷ []
    ≡ (true ∷ false ∷ false ∷ false ∷ false ∷ false ∷ false ∷ false ∷ [])
    ∷ (false ∷ true ∷ false ∷ false ∷ false ∷ false ∷ false ∷ false ∷ [])
    ∷ (false ∷ false ∷ true ∷ false ∷ false ∷ false ∷ false ∷ false ∷ [])
    ∷ (false ∷ false ∷ false ∷ true ∷ false ∷ false ∷ false ∷ false ∷ [])
    ∷ (false ∷ false ∷ false ∷ false ∷ false ∷ true ∷ false ∷ false ∷ [])
    ∷ []
unfolding everything
request_tests = refl

-- "Object target needed (all but 2, 16, 17, 18, 21 and create with e 2 or 3)"
pub object_targets :
    map (λ k. needs_object k 0) requests ∷ map (λ k. needs_object k 1) requests ∷ map (λ k. needs_object k 2) requests
    ∷ map (λ k. needs_object k 3) requests ∷ map (λ k. needs_object k 4) requests ∷ []
    ≡ (false ∷ false ∷ false ∷ false ∷ false ∷ true ∷ true ∷ false ∷ [])
    ∷ (false ∷ false ∷ false ∷ false ∷ false ∷ true ∷ true ∷ false ∷ [])
    ∷ (false ∷ false ∷ false ∷ false ∷ false ∷ false ∷ true ∷ false ∷ [])
    ∷ (false ∷ false ∷ false ∷ false ∷ false ∷ false ∷ true ∷ false ∷ [])
    ∷ (false ∷ false ∷ false ∷ false ∷ false ∷ true ∷ true ∷ false ∷ [])
    ∷ []
unfolding everything
object_targets = refl

-- 13 read-open, 14 read&write-open, 20 write-open, 3 close, 5 delete; the others leave the opens
pub open_changes :
    map open_change (numbers_below 23)
    ≡ Keep ∷ Keep ∷ Keep ∷ Close ∷ Keep ∷ CloseAll ∷ Keep ∷ Keep ∷ Keep ∷ Keep ∷ Keep ∷ Keep ∷ Keep
    ∷ Add 1 ∷ Add 3 ∷ Keep ∷ Keep ∷ Keep ∷ Keep ∷ Keep ∷ Add 2 ∷ Keep ∷ Keep ∷ []
unfolding everything
open_changes = refl
