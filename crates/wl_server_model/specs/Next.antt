-- The ids that the next global and the next client get, which a program may ask for beforehand.
use Rattle.std.specs.Prelude.{◌≡◌, ℕ, List, Option, None, Some, IsSome, Result, Ok, Err}
use Rattle.wl_wire.specs.declared.interface.InterfaceId.{InterfaceId}
use Rattle.wl_wire.specs.Table.{InterfaceRow}
use Rattle.wl_server_client.specs.declared.error.GlobalError.{GlobalError}
use Rattle.wl_server_client.specs.declared.error.GlobalError.TheVariants as global
use Rattle.wl_server_client.specs.declared.error.InsertClientError.{InsertClientError}
use Rattle.wl_server_client.specs.declared.error.InsertClientError.TheVariants as insert
use Rattle.wl_server_client.specs.Globals.{Globals, CreatesGlobal, IsNextGlobal, LacksName}
use Rattle.wl_server_client.specs.Ids.{ClientParts, GlobalParts}
use Rattle.wl_server_client.specs.Stored.{Stored}
use Rattle.wl_server_model.specs.Steps.{InsertsNext, IsNextClient, LacksSlot}

-- ---- globals

-- the id of the next global; none if no name or no serial is left
abbrev pub NextGlobal : {G : Type 0} → Globals G → Option GlobalParts → Type 0
NextGlobal globals (Some id) = IsNextGlobal globals id
NextGlobal globals None = LacksName globals

-- the id that was told is the one that a creation gives; if none was told, a creation is refused
abbrev pub GlobalIsAsTold : Option GlobalParts → Result GlobalParts GlobalError → Type 0
GlobalIsAsTold told (Ok id) = told ≡ Some id
GlobalIsAsTold told (Err global.Full) = told ≡ None
GlobalIsAsTold told (Err global.OutOfMemory) = IsSome told
GlobalIsAsTold told (Err _) = Unit {0}

-- so it is of each creation of a global
abbrev pub NextGlobalIsGiven : {G : Type 0} → List InterfaceRow → Globals G → Option GlobalParts → Type 0
NextGlobalIsGiven table globals told =
    (i : InterfaceId) (version : ℕ) (answer : Result GlobalParts GlobalError) → CreatesGlobal table globals i version answer → GlobalIsAsTold told answer

-- ---- clients

-- the id of the next client; none if no slot or no serial is left
abbrev pub NextClient : {T U C : Type 0} → ℕ → List (Option (Stored T U C)) → Option ClientParts → Type 0
NextClient last clients (Some id) = IsNextClient last clients id
NextClient last clients None = LacksSlot last clients

-- the id that was told is the one that an insertion gives; if none was told, an insertion is refused
abbrev pub ClientIsAsTold : Option ClientParts → Result ClientParts InsertClientError → Type 0
ClientIsAsTold told (Ok id) = told ≡ Some id
ClientIsAsTold told (Err insert.Full) = told ≡ None
ClientIsAsTold told (Err insert.OutOfMemory) = IsSome told

-- so it is of each insertion of a client
abbrev pub NextClientIsGiven : {T U C : Type 0} → ℕ → List (Option (Stored T U C)) → Option ClientParts → Type 0
NextClientIsGiven last clients told = (answer : Result ClientParts InsertClientError) → InsertsNext last clients answer → ClientIsAsTold told answer
