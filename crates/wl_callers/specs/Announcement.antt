-- What a program knows of the registries of its clients after it offered a global.
use Rattle.std.specs.Prelude.{◌≡◌, ℕ, List, ◌∷◌, ◌++◌, true, false, Some, Ok, Contains}
use Rattle.wl_wire.specs.declared.interface.InterfaceId.{InterfaceId}
use Rattle.wl_wire.specs.Table.{InterfaceRow}
use Rattle.wl_link.specs.Identity.{Id}
use Rattle.wl_server_model.specs.declared.step.Reply.TheVariants as reply
use Rattle.wl_server_model.specs.declared.step.Step.TheVariants as step
use Rattle.wl_server_model.specs.Announced.{Announced, IsAlwaysLeftAlone, announced, announced_as}
use Rattle.wl_server_client.specs.Deeds.{log_of, registries_in}
use Rattle.wl_server_client.specs.Ids.{ClientParts, GlobalParts}
use Rattle.wl_server_model.specs.Lookups.{client_of}
use Rattle.wl_server_client.specs.Part.{Part}
use Rattle.wl_server_model.specs.PartStep.{Asked, World}
use Rattle.wl_server_model.specs.Runs.{Leads, history, mine}
use Rattle.wl_server_model.specs.Server.{ServerState, new_server}
use Rattle.wl_server_model.specs.Steps.{Entry}

module _ {T U G C : Type 0} (w : World T G C) where
  -- Whatever calls led from a new server to this one: each registry that was made for the client, and that the program left
  -- alone, announces this global, by all that was put for the client since it was inserted.
  abbrev pub IsTold : ServerState T U G C → ClientParts → Announced → Type 0
  IsTold after id g =
      (table : List InterfaceRow) (run earlier later : List (Entry T U G C)) (e : Entry T U G C) (transport : T) (client_data : C) (registry : Id)
      → Leads w (new_server table) run after → run ≡ earlier ++ e ∷ later → e.call ≡ Asked (step.InsertClient transport client_data) (reply.InsertClient (Ok id))
      → Contains (registries_in (history (mine id later))) registry → IsAlwaysLeftAlone registry (mine id later)
      → Contains (announced (log_of (history (mine id later))) registry) g

  -- each live client that may see the global was told of it
  abbrev pub IsOffered : G → InterfaceId → ℕ → GlobalParts → ServerState T U G C → Type 0
  IsOffered handler i version global after =
      (id : ClientParts) (p : Part T U C) → client_of after id ≡ Some p → p.is_killed ≡ false → w.views handler id p.client_data global ≡ true
      → IsTold after id (announced_as after.offer.table (record { name = global.name; interface = i; version = version }))
