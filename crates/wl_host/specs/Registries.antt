-- Registries that are handed out: the host tells them of globals. It is kept which of them was told of which global, and of the
-- removal of a global exactly those are told.
use Rattle.std.specs.Prelude.{◌≡◌, ◌⊎◌, ℕ, List, [], ◌∷◌, ◌++◌, map, Bool, true, false, not, ◌==◌, ◌&&◌, Some, is_some, Result, Ok, Err, MatchOption}
use Rattle.std.specs.List.{filter, list_any}
use Rattle.wl_wire.specs.declared.argument.Argument.TheVariants as arg
use Rattle.wl_wire.specs.declared.argument.Token.{Token}
use Rattle.wl_wire.specs.declared.message.Message.{Message}
use Rattle.wl_wire.specs.Table.{InterfaceRow, name_of}
use Rattle.wl_server_client.specs.declared.error.EventError.{EventError}
use Rattle.wl_server_client.specs.declared.error.EventError.TheVariants as event_error
use Rattle.wl_server_client.specs.declared.ids.global_id.GlobalInfo.{GlobalInfo}
use Rattle.wl_server_client.specs.declared.notes.DisconnectReason.TheVariants as reason
use Rattle.wl_server_model.specs.declared.step.Reply.TheVariants as reply
use Rattle.wl_server_model.specs.declared.step.Step.TheVariants as step
use Rattle.wl_server_model.specs.Backend.{Calls}
use Rattle.wl_server_client.specs.Deeds.{IsAmong}
use Rattle.wl_server_client.specs.Ids.{ClientParts, GlobalParts, IdParts}
use Rattle.wl_server_model.specs.Lookups.{global_info_by, object_info_of}
use Rattle.wl_server_model.specs.Plain.{same_object}
use Rattle.wl_host.specs.Calls.{CoreState, status_by, world}
use Rattle.wl_host.specs.Clients.{told_at}
use Rattle.wl_host.specs.Globals.{told_all}
use Rattle.wl_host.specs.Server.{ServerState}
use Rattle.wl_flat.specs.Status.{of_event}
use Rattle.wl_host.specs.declared.server.registries.Told.{Told}
use Rattle.wl_flat.specs.declared.status.Status.{Status}
use Rattle.wl_flat.specs.declared.status.Status.TheVariants as status

-- ---- what is kept

-- a registry was told of this global
abbrev pub is_of : GlobalParts → Told → Bool
is_of global t = (t.global.serial == global.serial) && (t.global.name == global.name)

-- the registries that were told of the global, in order, each as often as it was
abbrev pub registries_told : GlobalParts → List Told → List IdParts
registries_told global told = map (λ t. t.registry) (filter (is_of global) told)

-- without the global
abbrev pub without_global : GlobalParts → List Told → List Told
without_global global told = filter (λ t. not (is_of global t)) told

-- the registry is there
abbrev pub is_there : CoreState → Told → Bool
is_there core t = is_some (object_info_of core.server t.registry)

-- all that was kept still is, or only what is kept of registries that are there
abbrev pub KeepsThere : CoreState → List Told → List Told → Type 0
KeepsThere core before after = (after ≡ before) ⊎ (after ≡ filter (is_there core) before)

-- ---- a global is announced

-- `wl_registry.global`: the registry is told of the global's name, of the name of its interface, and of its version
pub record IsGlobalEvent (table : List InterfaceRow) (registry : IdParts) (name : ℕ) (info : GlobalInfo) (event : Message IdParts Token) : Type 0 where
  pub sender : event.sender_id ≡ registry
  pub opcode : event.opcode ≡ 0
  pub args : event.args.items ≡ arg.Uint name ∷ arg.Str (Some (name_of table info.interface.0)) ∷ arg.Uint info.version ∷ []

-- it is kept that the registry was told, unless the core refused that
abbrev pub told_with : List Told → Told → Result (Unit {0}) EventError → List Told
told_with told t (Ok u) = told ++ t ∷ []
told_with told t (Err e) = told

-- of a global that is there: the core is asked to send the event; or there was no memory to keep that, or for the event
abbrev pub AnnouncesAs : ServerState → IdParts → GlobalParts → GlobalInfo → Status → ServerState → Type 0
AnnouncesAs before registry global info s after =
    (kept : List Told) × KeepsThere before.core before.told kept
    × (((s ≡ status.OutOfMemory) × (after ≡ record before { told = kept }))
    ⊎ ((event : Message IdParts Token) × (answer : Result (Unit {0}) EventError)
    × IsGlobalEvent before.core.server.offer.table registry global.name info event
    × Calls world before.core (step.SendEvent event) (reply.SendEvent answer) after.core × (s ≡ status_by of_event answer)
    × (after ≡ record (told_at before after.core registry.client.slot) { told = told_with kept (record { registry = registry; global = global }) answer })))

-- The registry is told of the global, and that is kept. The global may not be there; then nothing is changed.
abbrev pub Announces : ServerState → IdParts → GlobalParts → Status → ServerState → Type 0
Announces before registry global s after =
    MatchOption (global_info_by before.core.server global) ((s ≡ status.InvalidId) × (after ≡ before))
    (λ info. AnnouncesAs before registry global info s after)

-- ---- its removal is told

-- `wl_registry.global_remove`: the registry is told that the name is that of no global any more
pub record IsRemovalEvent (registry : IdParts) (name : ℕ) (event : Message IdParts Token) : Type 0 where
  pub sender : event.sender_id ≡ registry
  pub opcode : event.opcode ≡ 1
  pub args : event.args.items ≡ arg.Uint name ∷ []

-- a client that could not be told for want of memory is killed
abbrev pub KillsUntold : ClientParts → Result (Unit {0}) EventError → CoreState → CoreState → Type 0
KillsUntold id (Err event_error.OutOfMemory) before after =
    Calls world before (step.KillClient id reason.ConnectionClosed) reply.KillClient after
KillsUntold id _ before after = after ≡ before

-- one registry is told, with this answer of the core
abbrev pub TellsRemoval : ℕ → CoreState → IdParts → Result (Unit {0}) EventError → CoreState → Type 0
TellsRemoval name before registry answer after =
    (event : Message IdParts Token) × (mid : CoreState)
    × IsRemovalEvent registry name event × Calls world before (step.SendEvent event) (reply.SendEvent answer) mid
    × KillsUntold registry.client answer mid after

-- the status so far, and of one more answer: memory ran out if it did for one registry
abbrev pub said_with : Status → Result (Unit {0}) EventError → Status
said_with s (Err event_error.OutOfMemory) = status.OutOfMemory
said_with s _ = s

-- These registries are told, one after another, and the core is asked for nothing else. Of those before them the status is `so_far`.
abbrev pub TellsRemovals : ℕ → CoreState → List IdParts → Status → Status → CoreState → Type 0
TellsRemovals name before [] so_far s after = (s ≡ so_far) × (after ≡ before)
TellsRemovals name before (registry ∷ registries) so_far s after =
    (answer : Result (Unit {0}) EventError) × (mid : CoreState) × TellsRemoval name before registry answer mid
    × TellsRemovals name mid registries (said_with so_far answer) s after

-- Exactly the registries that were told of the global are told of its removal, and it is no longer kept of any that it was. If none
-- was told, nothing is changed.
abbrev pub Withdraws : ServerState → GlobalParts → Status → ServerState → Type 0
Withdraws before global s after =
    ((list_any (is_of global) before.told ≡ false) × (s ≡ status.Ok) × (after ≡ before))
    ⊎ ((list_any (is_of global) before.told ≡ true)
    × TellsRemovals global.name before.core (registries_told global before.told) status.Ok s after.core
    × (after ≡ record (told_all before after.core) { told = without_global global before.told }))

-- ---- over calls

-- What a call means for registries that are handed out: one was told of a global; or those that were told of one were told of its
-- removal; or neither.
pub data Telling : Type 0 where
  Announced : (registry : IdParts) (global : GlobalParts) → Telling
  Withdrawn : (global : GlobalParts) → Telling
  Neither : Telling

-- a call, and the session after it
pub record Called : Type 0 where
  pub call : Telling
  pub after : ServerState

-- a call leads from one state of the session to another; one that does neither drops nothing that is kept of a registry that is there
abbrev pub Tells : ServerState → Telling → ServerState → Type 0
Tells before (Announced registry global) after = Announces before registry global status.Ok after
Tells before (Withdrawn global) after = (s : Status) × Withdraws before global s after
Tells before Neither after = KeepsThere before.core before.told after.told

-- the calls lead on from this state, one after another
abbrev pub AllTell : ServerState → List Called → Type 0
AllTell before [] = Unit {0}
AllTell before (c ∷ run) = Tells before c.call c.after × AllTell c.after run

-- what is kept after them
abbrev pub kept_after : List Told → List Called → List Told
kept_after told [] = told
kept_after told (c ∷ run) = kept_after c.after.told run

abbrev pub outstanding_after : List Told → Telling → List Told
outstanding_after told (Announced registry global) = told ++ record { registry = registry; global = global } ∷ []
outstanding_after told (Withdrawn global) = without_global global told
outstanding_after told Neither = told

-- Of which globals which registries are to be told that they are removed, by the calls alone: they were told of the global, and not
-- of its removal since.
abbrev pub outstanding : List Told → List Called → List Told
outstanding told [] = told
outstanding told (c ∷ run) = outstanding (outstanding_after told c.call) run

-- it is of this registry
abbrev pub is_to : IdParts → Told → Bool
is_to registry t = same_object registry t.registry

-- the registry is there before each of the calls
abbrev pub IsThereMeanwhile : IdParts → ServerState → List Called → Type 0
IsThereMeanwhile registry before [] = Unit {0}
IsThereMeanwhile registry before (c ∷ run) =
    (is_some (object_info_of before.core.server registry) ≡ true) × IsThereMeanwhile registry c.after run

-- Whatever the calls were: only registries that are to be told of a removal are kept; and of a registry that is there all the while,
-- all that it is to be told of is kept, in order.
pub record KeepsOutstanding (before : ServerState) (run : List Called) : Type 0 where
  pub only : (t : Told) → IsAmong (kept_after before.told run) t → IsAmong (outstanding before.told run) t
  pub all : (registry : IdParts) → IsThereMeanwhile registry before run
      → filter (is_to registry) (kept_after before.told run) ≡ filter (is_to registry) (outstanding before.told run)
