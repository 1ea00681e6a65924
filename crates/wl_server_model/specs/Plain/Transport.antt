-- What a program finds after it changed a client's transport, in the words of the look-ups.
--
-- It follows from the clauses `call` and `lends`.
use Rattle.std.specs.Prelude.{◌≡◌, ℕ, Bool, Option, Some, option_map}
use Rattle.wl_wire.specs.declared.interface.InterfaceId.{InterfaceId}
use Rattle.wl_link.specs.Link.{with_transport}
use Rattle.wl_server_model.specs.Backend.{BackendState}
use Rattle.wl_server_client.specs.Ids.{ClientParts, GlobalParts, IdParts}
use Rattle.wl_server_model.specs.Lookups.{client_by, client_data_of, live_clients, name_for, object_for_number, objects_of_client, transport_of}
use Rattle.wl_server_model.specs.Next.{NextClient}
use Rattle.wl_server_client.specs.Part.{with_link}
use Rattle.wl_server_model.specs.Plain.{GlobalsStay, ObjectsStay, OtherClientsStay, client_in, notes_made_in}
use Rattle.wl_server_model.specs.Server.{ServerState}

module _ {T U G C : Type 0} where
  -- Each look-up of a client answers as before, but that of a transport.
  pub record ClientLookupsStay (before after : ServerState T U G C) : Type 0 where
    pub client : (id : IdParts) → client_by after id ≡ client_by before id
    pub client_data : (id : ClientParts) → client_data_of after id ≡ client_data_of before id
    pub for_number : (id : ClientParts) (i : InterfaceId) (n : ℕ) → object_for_number after id i n ≡ object_for_number before id i n
    pub clients : live_clients after ≡ live_clients before
    pub objects : (id : ClientParts) → objects_of_client after id ≡ objects_of_client before id
    pub next : (told : Option ClientParts) → NextClient before.last_client before.clients told → NextClient after.last_client after.clients told
    pub name : (views : G → ClientParts → C → GlobalParts → Bool) (id : GlobalParts) (client : ClientParts)
        → name_for after views id client ≡ name_for before views id client

  -- The client has the transport that was left in the lent place, and all else of it is as before. So is all that is held of the
  -- other clients, each id of an object and of a global names what it named, and each other look-up answers as before.
  pub record LeavesTransport (before : BackendState T U G C) (id : ClientParts) (left : T) (after : BackendState T U G C) : Type 0 where
    pub transport : transport_of after.server id ≡ Some left
    pub client : client_in after id ≡ option_map (λ p. with_link p (with_transport p.link left)) (client_in before id)
    pub clients : OtherClientsStay before id after
    pub objects : ObjectsStay before after
    pub notes : (other : ClientParts) → notes_made_in after other ≡ notes_made_in before other
    pub globals : GlobalsStay before after
    pub lookups : ClientLookupsStay before.server after.server
    pub memory : after.refused ≡ before.refused
