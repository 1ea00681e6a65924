-- What a program finds after an insertion of a client, after a limit was set, and after the table grew, in the words of the
-- look-ups.
--
-- A contract that cites one of these has another clause beside it, `call`, from which it follows. `GrowsTable` also needs the
-- clause `server`.
use Rattle.std.specs.Prelude.{◌≡◌, ℕ, List, ◌∷◌, [], ◌++◌, Bool, true, false, Option, None, Some, Result, Ok, Err, MatchOption}
use Rattle.wl_wire.specs.declared.protocol.TableError.{TableError}
use Rattle.wl_wire.specs.Table.{AnswersTo, Extension, Growth, InterfaceRow, LongerRow, NewRows, refused_growth, table_after}
use Rattle.wl_link.specs.Link.{IsFresh, LimitSet, LinkState}
use Rattle.wl_server_client.specs.declared.error.InsertClientError.{InsertClientError}
use Rattle.wl_server_client.specs.declared.error.InsertClientError.TheVariants as insert
use Rattle.wl_server_client.specs.declared.notes.Happening.TheVariants.{Initialized}
use Rattle.wl_server_model.specs.Backend.{BackendState}
use Rattle.wl_server_client.specs.Globals.{with_table}
use Rattle.wl_server_client.specs.Ids.{ClientParts}
use Rattle.wl_server_client.specs.Part.{fresh_part, with_link}
use Rattle.wl_server_model.specs.Plain.{GlobalsStay, ObjectsStay, OtherClientsStay, client_in, notes_made_in}
use Rattle.wl_server_model.specs.Server.{seen}

-- the answer is `OutOfMemory`
abbrev pub lacks_insertion : Result ClientParts InsertClientError → Bool
lacks_insertion (Err insert.OutOfMemory) = true
lacks_insertion _ = false

module _ {T U G C : Type 0} where
  -- nothing of any client has changed
  abbrev pub ClientsStay : BackendState T U G C → BackendState T U G C → Type 0
  ClientsStay before after = (id : ClientParts) → seen id after.server ≡ seen id before.server

  -- The answer is the id of a new client: over this transport, with these data, live, and with no object but its display. Its
  -- insertion is noted. Or no client has changed.
  abbrev pub NewClientAs : BackendState T U G C → T → C → Result ClientParts InsertClientError → BackendState T U G C → Type 0
  NewClientAs before transport client_data (Ok id) after =
      (link : LinkState T) × IsFresh transport (Some before.server.offer.default_limit) link
      × (client_in after id ≡ Some (fresh_part link client_data))
      × (notes_made_in after id ≡ notes_made_in before id ++ Initialized ∷ [])
      × OtherClientsStay before id after
  NewClientAs before transport client_data (Err e) after = ClientsStay before after

  pub record InsertsClient (before : BackendState T U G C) (transport : T) (client_data : C) (answer : Result ClientParts InsertClientError) (after : BackendState T U G C)
      : Type 0 where
    pub client : NewClientAs before transport client_data answer after
    pub offer : GlobalsStay before after
    pub memory : after.refused ≡ lacks_insertion answer

  -- The buffers of the client have the limit, if it is stored. Nothing else of it has changed, and nothing of another client.
  pub record SetsLimit (before : BackendState T U G C) (id : ClientParts) (limit : ℕ) (after : BackendState T U G C) : Type 0 where
    pub client : MatchOption (client_in before id) (client_in after id ≡ None)
        (λ p. (link : LinkState T) × LimitSet p.link (Some limit) link × (client_in after id ≡ Some (with_link p link)))
    pub clients : OtherClientsStay before id after
    pub objects : ObjectsStay before after
    pub notes : (other : ClientParts) → notes_made_in after other ≡ notes_made_in before other
    pub offer : GlobalsStay before after
    pub memory : after.refused ≡ false

  -- New clients get the limit. Nothing else of the server has changed: no client that is stored, no global, no note.
  pub record SetsDefaultLimit (before : BackendState T U G C) (limit : ℕ) (after : BackendState T U G C) : Type 0 where
    pub server : after.server ≡ record before.server { offer = record before.server.offer { default_limit = limit } }
    pub memory : after.refused ≡ false

  -- Each client has the limit from now on. Nothing else of the server has changed: no client, no object, no global, no note.
  pub record SetsObjectLimit (before : BackendState T U G C) (limit : Option ℕ) (after : BackendState T U G C) : Type 0 where
    pub server : after.server ≡ record before.server { offer = record before.server.offer { object_limit = limit } }
    pub memory : after.refused ≡ false

  -- The table has grown by that. Or it answers why not, and is as before. Nothing else of the server has changed: no client, no
  -- global, no note, nor what the next of these will get.
  pub record GrowsTable (before : BackendState T U G C) (growth : Growth) (answer : Result (Unit {0}) TableError) (after : BackendState T U G C)
      : Type 0 where
    pub answered : AnswersTo before.server.offer.table growth answer
    pub server : after.server ≡ record before.server { offer = with_table before.server.offer (table_after before.server.offer.table growth answer) }
    pub memory : after.refused ≡ refused_growth answer

  -- the new rows follow the others
  abbrev pub AddsInterfaces : BackendState T U G C → List InterfaceRow → Result (Unit {0}) TableError → BackendState T U G C → Type 0
  AddsInterfaces before rows answer after = GrowsTable before (NewRows rows) answer after

  -- the new messages follow those of their interface
  abbrev pub ExtendsInterface : BackendState T U G C → Extension → Result (Unit {0}) TableError → BackendState T U G C → Type 0
  ExtendsInterface before more answer after = GrowsTable before (LongerRow more) answer after
