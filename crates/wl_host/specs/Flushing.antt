-- What a flush of one client answers to the host.
use Rattle.std.specs.Prelude.{◌≡◌, Option, None, Some, Result, Ok, Err, MatchOption, true}
use Rattle.wl_wire.specs.declared.error.OutOfMemory.{OutOfMemory}
use Rattle.wl_server_client.specs.Ids.{ClientParts}
use Rattle.wl_server_model.specs.Lookups.{transport_of}
use Rattle.wl_host.specs.Calls.{CoreState}
use Rattle.wl_host.specs.Server.{AsksClient, IsNotStored, ServerState, has_bytes}
use Rattle.wl_flat.specs.declared.status.Status.{Status}
use Rattle.wl_flat.specs.declared.status.Status.TheVariants as status

-- the status by what came of asking the client
abbrev pub said_of : Result (Option ClientParts) OutOfMemory → Status
said_of (Ok None) = status.WouldBlock
said_of (Ok (Some id)) = status.Ok
said_of (Err e) = status.OutOfMemory

-- The client is asked, if it is stored. Nothing else becomes of the session.
abbrev pub FlushesClient : ServerState → ClientParts → Status → ServerState → Type 0
FlushesClient before id s after =
    MatchOption (transport_of before.core.server id) (IsNotStored before s after)
    (λ m. (one : Result (Option ClientParts) OutOfMemory) × AsksClient before.core id one after.core × (s ≡ said_of one)
    × (after ≡ record before { core = after.core }))

-- the status is `Ok` only if bytes wait in the client's mailbox
abbrev pub OkHasBytes : CoreState → ClientParts → Status → Type 0
OkHasBytes core id s = s ≡ status.Ok → has_bytes core id ≡ true
