-- What a flush of one client says of the bytes that wait then.
use Rattle.std.specs.Prelude.{◌≡◌, ℕ, List, [], ◌∷◌, Option, None, Some, Result, Ok, Err}
use Rattle.wl_wire.specs.declared.error.IoFault.{IoFault}
use Rattle.wl_wire.specs.declared.error.IoFault.TheVariants as fault
use Rattle.wl_server.specs.declared.client.flush_client.Flushed.{Flushed}
use Rattle.wl_server.specs.declared.client.flush_client.Flushed.TheVariants.{All, More}
use Rattle.wl_server_model.specs.Backend.{BackendState}
use Rattle.wl_server_client.specs.Ids.{ClientParts}
use Rattle.wl_server_model.specs.Lookups.{client_of}
use Rattle.wl_server_client.specs.Part.{Part}

abbrev pub left_by : List ℕ → Flushed
left_by [] = All
left_by (b ∷ bytes) = More

module _ {T U C : Type 0} where
  -- whether bytes wait to be sent to a client
  abbrev pub left_of : Part T U C → Flushed
  left_of p = left_by p.link.outgoing.bytes

  abbrev pub left_if_stored : Option (Part T U C) → Flushed
  left_if_stored None = All
  left_if_stored (Some p) = left_of p

-- none wait for a client that is not stored
abbrev pub left_in : {T U G C : Type 0} → BackendState T U G C → ClientParts → Flushed
left_in b id = left_if_stored (client_of b.server id)

-- What is told of a flush that was answered so, and of what waits then. A transport that takes no more is no error.
abbrev pub TellsLeft : Result (Unit {0}) IoFault → Flushed → Result Flushed IoFault → Type 0
TellsLeft (Ok _) left result = result ≡ Ok left
TellsLeft (Err fault.WouldBlock) left result = result ≡ Ok left
TellsLeft (Err e) left result = result ≡ Err e
