-- What the calls of a server's session do, in the words of its core: the look-up or the step that each call is, and the status
-- for what the core answered.
use Rattle.std.specs.Prelude.{◌≡◌, ℕ, ◌⊎◌, ◌==◌, Bool, if◌then◌else◌, unwrap_or, true, false, List, Option, None, Some, Result, Ok, Err, option_map}
use Rattle.std.specs.Option.{option_map_or}
use Rattle.wl_wire.specs.declared.interface.InterfaceId.{InterfaceId}
use Rattle.wl_wire.specs.declared.interface.ObjectInfo.{ObjectInfo}
use Rattle.wl_link.specs.Mailbox.{MailboxState, MailboxSends, MailboxReceives}
use Rattle.wl_server_model.specs.Backend.{BackendState, Calls}
use Rattle.wl_server_client.specs.Ids.{ClientParts, GlobalParts, IdParts}
use Rattle.wl_server_model.specs.Next.{NextClient, NextGlobal}
use Rattle.wl_server_model.specs.PartStep.{World, over}
use Rattle.wl_link.specs.Exchange.{nothing}
use Rattle.wl_link.specs.declared.mailbox.Ending.TheVariants as ending
use Rattle.wl_server.specs.Lending.{state_over}
use Rattle.wl_server_model.specs.Lookups.{handler_of, object_data_of, object_info_of, transport_of}
use Rattle.wl_server_client.specs.declared.error.InsertClientError.{InsertClientError}
use Rattle.wl_server_client.specs.declared.error.CreateError.{CreateError}
use Rattle.wl_server_client.specs.declared.error.DestroyError.{DestroyError}
use Rattle.wl_server_client.specs.declared.error.FinishRefused.{FinishRefused}
use Rattle.wl_server_client.specs.declared.error.GlobalError.{GlobalError}
use Rattle.wl_server_client.specs.declared.error.InvalidId.{InvalidId}
use Rattle.wl_server_client.specs.declared.ids.global_id.GlobalInfo.{GlobalInfo}
use Rattle.wl_server_model.specs.declared.step.Reply.TheVariants as reply
use Rattle.wl_server_model.specs.declared.step.Step.TheVariants as step
use Rattle.wl_flat.specs.Flat.{client_of, flat_client, flat_global, flat_resource, interface_number, resource_of}
use Rattle.wl_host.specs.Visibility.{IsViewed, IsViewer, sees}
use Rattle.wl_flat.specs.Status.{of_create, of_destroy, of_finish, of_global, of_insert, flattened}
use Rattle.wl_flat.specs.declared.flat.FlatClientId.{FlatClientId}
use Rattle.wl_flat.specs.declared.flat.FlatGlobalId.{FlatGlobalId}
use Rattle.wl_flat.specs.declared.flat.FlatGlobalInfo.{FlatGlobalInfo}
use Rattle.wl_flat.specs.declared.flat.FlatObjectId.{FlatObjectId}
use Rattle.wl_flat.specs.declared.flat.FlatObjectInfo.{FlatObjectInfo}
use Rattle.wl_host.specs.declared.server.HostClient.{HostClient}
use Rattle.wl_host.specs.declared.server.HostGlobal.{HostGlobal}
use Rattle.wl_flat.specs.declared.status.Status.{Status}
use Rattle.wl_flat.specs.declared.status.Status.TheVariants as status

-- the server over mailboxes
abbrev pub world : World MailboxState HostGlobal HostClient
world = over MailboxSends MailboxReceives sees

-- what contracts see of the core
abbrev pub CoreState : Type 0
CoreState = BackendState MailboxState ℕ HostGlobal HostClient

abbrev pub interface_of : ℕ → InterfaceId
interface_of n = record { 0 = n }

-- ---- look-ups

-- what was found, or `InvalidId`
abbrev pub or_invalid : {A : Type 0} → Option A → Result A Status
or_invalid None = Err status.InvalidId
or_invalid (Some x) = Ok x

-- what was told, or `Full`
abbrev pub or_full : {A : Type 0} → Option A → Result A Status
or_full None = Err status.Full
or_full (Some x) = Ok x

abbrev pub flat_object_info : ObjectInfo → FlatObjectInfo
flat_object_info info = record { number = info.id; interface = interface_number info.interface.0; version = info.version }

abbrev pub bit_of : Bool → ℕ
bit_of true = 1
bit_of false = 0

abbrev pub flat_global_info : GlobalInfo → FlatGlobalInfo
flat_global_info info = record { interface = interface_number info.interface.0; version = info.version; is_disabled = bit_of info.disabled; unused = 0 }

-- the id that the next client gets, and that of the next global
abbrev pub TellsNextClient : CoreState → Result FlatClientId Status → Type 0
TellsNextClient s result =
    (next : Option ClientParts) × NextClient s.server.last_client s.server.clients next × (result ≡ or_full (option_map flat_client next))

abbrev pub TellsNextGlobal : CoreState → Result FlatGlobalId Status → Type 0
TellsNextGlobal s result =
    (next : Option GlobalParts) × NextGlobal s.server.offer.globals next × (result ≡ or_full (option_map flat_global next))

-- ---- steps

-- the status of an answer without a value
abbrev pub status_by : {E : Type 0} → (E → Status) → Result (Unit {0}) E → Status
status_by status_of (Ok u) = status.Ok
status_by status_of (Err e) = status_of e

abbrev pub CreatesObject : CoreState → FlatClientId → ℕ → ℕ → ℕ → Result FlatObjectId Status → CoreState → Type 0
CreatesObject before client interface version u result after =
    (answer : Result IdParts CreateError)
    × Calls world before (step.CreateObject (client_of client) (interface_of interface) version u) (reply.CreateObject answer) after
    × (result ≡ flattened flat_resource of_create answer)

abbrev pub DestroysObject : CoreState → FlatObjectId → Status → CoreState → Type 0
DestroysObject before object s after =
    (answer : Result (Unit {0}) DestroyError)
    × Calls world before (step.DestroyObject (resource_of object)) (reply.DestroyObject answer) after × (s ≡ status_by of_destroy answer)

abbrev pub of_invalid : InvalidId → Status
of_invalid e = status.InvalidId

abbrev pub SetsObjectData : CoreState → FlatObjectId → ℕ → Status → CoreState → Type 0
SetsObjectData before object u s after =
    (answer : Result (Unit {0}) InvalidId)
    × Calls world before (step.SetObjectData (resource_of object) u) (reply.SetObjectData answer) after × (s ≡ status_by of_invalid answer)

-- a global with these data, groups and hidden clients; or there was no memory for the list of these, and the core is not called
abbrev pub CreatesGlobal : CoreState → ℕ → ℕ → ℕ → ℕ → List FlatClientId → Result FlatGlobalId Status → CoreState → Type 0
CreatesGlobal before interface version user_data groups hidden result after =
    ((global : HostGlobal) × (answer : Result GlobalParts GlobalError) × IsViewed user_data groups hidden global
    × Calls world before (step.CreateGlobal (interface_of interface) version global) (reply.CreateGlobal answer) after
    × (result ≡ flattened flat_global of_global answer))
    ⊎ ((result ≡ Err status.OutOfMemory) × (after ≡ before))

-- ---- what is told beside an id

-- the program's data of the object; 0 if it has none, or if the id names none
abbrev pub data_or_zero : CoreState → IdParts → ℕ
data_or_zero core id = if id.number == 0 then 0 else unwrap_or (object_data_of core.server id) 0

-- the version of the object; 0 if the id names none
abbrev pub version_or_zero : CoreState → IdParts → ℕ
version_or_zero core id = option_map_or (λ info. info.version) (object_info_of core.server id) 0

-- the program's data of the global; 0 if it was removed
abbrev pub global_data_or_zero : CoreState → GlobalParts → ℕ
global_data_or_zero core id = option_map_or (λ global. global.user_data) (handler_of core.server id) 0

-- ---- the end of an action

-- The data that came back, or the refusal: the data are kept if none came back.
abbrev pub kept_by : {R : Type 0} → Result (Option ℕ) (FinishRefused R) → Result Bool Status
kept_by (Ok None) = Ok true
kept_by (Ok (Some u)) = Ok false
kept_by (Err refused) = Err (of_finish refused.error)

-- ---- the mailbox of a client

-- the client's mailbox is changed so, and all else is as before
abbrev pub HasMailbox : CoreState → ClientParts → (MailboxState → MailboxState) → CoreState → Type 0
HasMailbox before id change after =
    (m : MailboxState) × (transport_of before.server id ≡ Some m) × (after ≡ state_over before id (change m))

-- ---- clients

-- the mailbox of a new client
abbrev pub new_mailbox : MailboxState
new_mailbox = record { arrived = nothing; ending = ending.Open; waiting = nothing; room = 65536; send_fault = None }

-- a client with these data, groups and hidden globals; or no slot or no serial is left, or there was no memory for what is kept of it
abbrev pub InsertsClient : CoreState → ℕ → ℕ → List FlatGlobalId → Result FlatClientId Status → CoreState → Type 0
InsertsClient before user_data groups hidden result after =
    ((client : HostClient) × (answer : Result ClientParts InsertClientError) × IsViewer user_data groups hidden client
    × Calls world before (step.InsertClient new_mailbox client) (reply.InsertClient answer) after
    × (result ≡ flattened flat_client of_insert answer))
    ⊎ ((((result ≡ Err status.Full) × NextClient before.server.last_client before.server.clients None) ⊎ (result ≡ Err status.OutOfMemory)) × (after ≡ before))
