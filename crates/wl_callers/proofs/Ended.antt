-- How a client that is killed is handed out by the next cleanup.
use Rattle.std.proofs.Common.{◌≡◌, ℕ, Option, None, Some, Result, Ok, Err, refl}
use Rattle.std.specs.Prelude.{IfOk, IfSome, Vec, option_map}
use Rattle.std.specs.Global.{Global}
use Rattle.wl_wire.specs.declared.error.IoFault.{IoFault}
use Rattle.wl_wire.specs.declared.error.OutOfMemory.{OutOfMemory}
use Rattle.wl_link.specs.Exchange.{Queue}
use Rattle.wl_server_client.specs.declared.notes.DisconnectReason.{DisconnectReason}
use Rattle.wl_server_model.specs.Backend.{BackendState}
use Rattle.wl_server_client.specs.Ids.{ClientParts}
use Rattle.wl_server_model.specs.Lookups.{client_of}
use Rattle.wl_server_client.specs.Part.{Part}
use Rattle.wl_server_model.specs.PartStep.{share_of}
use Rattle.wl_server_model.specs.Plain.{CleansUpClients, HandsOut, KillsClient, as_killed}

pub handed_out : {T U G C : Type 0} (sends : T → Queue → Result ℕ IoFault → T → Type 0) (before mid after : BackendState T U G C) (id : ClientParts) (reason : DisconnectReason)
    (answer : Result (Vec (ClientParts × T) Global) OutOfMemory) → KillsClient before id reason mid → CleansUpClients sends mid answer after
    → IfOk answer (λ out. IfSome (client_of before.server id) (λ was. HandsOut sends was (share_of id out.items) (client_of after.server id)))
handed_out sends before mid after id reason (Err e) kills cleans = tt
handed_out {T} {U} {G} {C} sends before mid after id reason (Ok out) kills cleans = at (client_of before.server id) kills.client
  where
    at : (o : Option (Part T U C)) → client_of mid.server id ≡ option_map as_killed o → IfSome o (λ was. HandsOut sends was (share_of id out.items) (client_of after.server id))
    at None none = tt
    at (Some was) killed = cleans.killed id (as_killed was) killed refl
