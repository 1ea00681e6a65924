-- What a program finds after a global was created, disabled or removed, in the words of the look-ups.
--
-- A contract that cites one of these has another clause beside it, `call`, from which it follows.
use Rattle.std.specs.Prelude.{◌≡◌, ◌⊎◌, ℕ, ◌∷◌, [], ◌++◌, Bool, true, false, Option, None, Some, Result, Ok, Err, MatchOption, option_map}
use Rattle.wl_wire.specs.declared.interface.InterfaceId.{InterfaceId}
use Rattle.wl_link.specs.declared.object.Object.{Object}
use Rattle.wl_link.specs.Link.{LinkState}
use Rattle.wl_server_client.specs.declared.error.GlobalError.{GlobalError}
use Rattle.wl_server_client.specs.declared.error.GlobalError.TheVariants as no_global
use Rattle.wl_server_client.specs.declared.globals.KeptGlobal.{KeptGlobal}
use Rattle.wl_server_client.specs.declared.notes.DisconnectReason.TheVariants.{ConnectionClosed}
use Rattle.wl_server_client.specs.declared.notes.Happening.TheVariants.{Disconnected}
use Rattle.wl_server_model.specs.Backend.{BackendState}
use Rattle.wl_server_model.specs.GivenOnce.{same_global}
use Rattle.wl_server_client.specs.Globals.{as_disabled, global_of, handing_registries, is_enabled, keeping, new_global}
use Rattle.wl_server_client.specs.Ids.{ClientParts, GlobalParts}
use Rattle.wl_server_client.specs.Part.{with_link}
use Rattle.wl_server_model.specs.Plain.{ObjectsStay, as_killed, killed_in}
use Rattle.wl_server_model.specs.Plain.Calls.{ClientsStay}
use Rattle.wl_server_model.specs.Server.{Seen, seen}

module _ {T U C : Type 0} where
  -- A client was told of a global, or was told nothing: only its link may differ. Or it could not be told: then it is killed,
  -- which is noted.
  abbrev pub IsToldOrKilled : Seen T U C → Seen T U C → Type 0
  IsToldOrKilled before after =
      MatchOption before.part (after ≡ before)
      (λ p. (link : LinkState T)
      × ((after ≡ record { part = Some (with_link p link); made = before.made })
      ⊎ ((p.is_killed ≡ false)
      × (after ≡ record { part = Some (as_killed (with_link p link)); made = before.made ++ Disconnected ConnectionClosed ∷ [] }))))

module _ {T U G C : Type 0} where
  -- the global that the id names
  abbrev pub global_in : BackendState T U G C → GlobalParts → Option (Object (KeptGlobal G))
  global_in b id = global_of b.server.offer.globals id

  -- each id but this one names the global that it named before
  abbrev pub OtherGlobalsStay : BackendState T U G C → GlobalParts → BackendState T U G C → Type 0
  OtherGlobalsStay before id after = (other : GlobalParts) → same_global id other ≡ false → global_in after other ≡ global_in before other

  -- Each client may have been told of a global, or killed since it could not be told. No object has changed.
  pub record MayBeTold (before after : BackendState T U G C) : Type 0 where
    pub each : (id : ClientParts) → IsToldOrKilled (seen id before.server) (seen id after.server)
    pub objects : ObjectsStay before after

  -- some client that was live is killed now
  abbrev pub KillsSome : BackendState T U G C → BackendState T U G C → Type 0
  KillsSome before after = (id : ClientParts) × (killed_in before id ≡ Some false) × (killed_in after id ≡ Some true)

  -- After an error memory was refused exactly if the answer is `OutOfMemory`. After `Ok` it was only if a client could not be told of
  -- the global, and is killed now.
  abbrev pub GlobalMemory : BackendState T U G C → Result GlobalParts GlobalError → BackendState T U G C → Type 0
  GlobalMemory before (Ok g) after = after.refused ≡ true → KillsSome before after
  GlobalMemory before (Err no_global.OutOfMemory) after = after.refused ≡ true
  GlobalMemory before (Err e) after = after.refused ≡ false

  -- The answer is the id of the new global, which is enabled and has this interface, version and handler. It named none
  -- before, and each other id names what it named. Or nothing has changed.
  abbrev pub GlobalCreatedAs : BackendState T U G C → InterfaceId → ℕ → G → Result GlobalParts GlobalError → BackendState T U G C → Type 0
  GlobalCreatedAs before i version handler (Ok g) after =
      (global_in before g ≡ None) × (global_in after g ≡ Some (new_global i version g.serial handler)) × OtherGlobalsStay before g after
  GlobalCreatedAs before i version handler (Err e) after = (after.server.offer ≡ before.server.offer) × ClientsStay before after

  pub record OffersGlobal (before : BackendState T U G C) (i : InterfaceId) (version : ℕ) (handler : G) (answer : Result GlobalParts GlobalError)
      (after : BackendState T U G C) : Type 0 where
    pub global : GlobalCreatedAs before i version handler answer after
    pub clients : MayBeTold before after
    pub memory : GlobalMemory before answer after

  -- The global is disabled, if it is kept. The others stay. Memory was refused only if the global was enabled, and a client could
  -- not be told of it and is killed now.
  pub record DisablesGlobal (before : BackendState T U G C) (id : GlobalParts) (after : BackendState T U G C) : Type 0 where
    pub global : global_in after id ≡ option_map as_disabled (global_in before id)
    pub others : OtherGlobalsStay before id after
    pub clients : MayBeTold before after
    pub memory : after.refused ≡ true → (is_enabled (global_in before id) ≡ true) × KillsSome before after

  -- The id names no global any longer. The others stay. Of memory the same holds as where a global is disabled.
  pub record RemovesGlobal (before : BackendState T U G C) (id : GlobalParts) (after : BackendState T U G C) : Type 0 where
    pub global : global_in after id ≡ None
    pub others : OtherGlobalsStay before id after
    pub clients : MayBeTold before after
    pub memory : after.refused ≡ true → (is_enabled (global_in before id) ≡ true) × KillsSome before after

  -- Names are kept from now on, or no longer. Nothing else of the server has changed: no client, no global, no note.
  pub record KeepsNames (before : BackendState T U G C) (keeps : Bool) (after : BackendState T U G C) : Type 0 where
    pub server : after.server ≡ record before.server { offer = keeping before.server.offer keeps }
    pub memory : after.refused ≡ false

  -- Registries are handed out from now on, or no longer. Nothing else of the server has changed: no client, no global, no note.
  pub record HandsRegistries (before : BackendState T U G C) (hands : Bool) (after : BackendState T U G C) : Type 0 where
    pub server : after.server ≡ record before.server { offer = handing_registries before.server.offer hands }
    pub memory : after.refused ≡ false
