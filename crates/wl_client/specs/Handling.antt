-- How a message is handled: it does nothing more, or is an event to hand out, or ends the session.
--
-- This is a function of the table, the objects and the message, and says what the objects are after it.
use Rattle.std.specs.Prelude.{ℕ, List, [], ◌∷◌, Bool, false, ◌&&◌, ◌==◌, if◌then◌else◌, Option, None, Some, is_none, option_map}
use Rattle.wl_wire.specs.declared.argument.Argument.{Argument}
use Rattle.wl_wire.specs.declared.argument.ArgumentType.{ArgumentType}
use Rattle.wl_wire.specs.declared.argument.Token.{Token}
use Rattle.wl_wire.specs.declared.error.ProtocolError.{ProtocolError}
use Rattle.wl_wire.specs.MessageRows.{event_row}
use Rattle.wl_wire.specs.Message.{WireMessage}
use Rattle.wl_wire.specs.Parse.{opcode_of, sender_of}
use Rattle.wl_wire.specs.Table.{InterfaceRow, MessageRow}
use Rattle.wl_link.specs.declared.object.Object.{Object}
use Rattle.wl_link.specs.Identity.{Objects}
use Rattle.wl_link.specs.Store.{Store, held}
use Rattle.wl_client.specs.declared.event_fault.EventFault.TheVariants as wrong
use Rattle.wl_client.specs.declared.objects.Kept.{Kept}
use Rattle.wl_client.specs.declared.event.OpenEvent.{OpenEvent}
use Rattle.wl_client.specs.ObjectId.{IdParts}
use Rattle.wl_client.specs.Events.{Outcome, Whole, Wrong, convert, start, error_of, DisplayEvent, Fails, Deletes, Unreadable, display_event, told_error, deleted}
use Rattle.wl_client.specs.Requests.{SessionMessage}
use Rattle.wl_client.specs.Session.{alive, id_at}

-- ---- what the table says of an event

module _ {U : Type 0} where
  abbrev pub row_in : List InterfaceRow → Option (Object (Kept U)) → ℕ → Option MessageRow
  row_in table None opcode = None
  row_in table (Some x) opcode = event_row table x.interface opcode

  abbrev pub signature_in : List InterfaceRow → Store (Kept U) → ℕ → ℕ → Option (List ArgumentType)
  signature_in table store sender opcode = option_map (λ row. row.signature) (row_in table (held store sender) opcode)

  -- A session that passes over messages of unknown senders passes over one for which the table has no event, if its number
  -- holds no object, or one that the client destroyed.
  abbrev pub is_passed_over : Bool → Option (Object (Kept U)) → Option MessageRow → Bool
  is_passed_over passes sender (Some row) = false
  is_passed_over passes sender None = passes && is_none (alive sender)

  -- The signature by which a message is read. One that is passed over has an empty one: nothing is known of its arguments, which
  -- stay unread, and it takes no token. Any other has that of the table.
  abbrev pub signature_by : Bool → List InterfaceRow → Store (Kept U) → ℕ → ℕ → Option (List ArgumentType)
  signature_by passes table store sender opcode =
      if is_passed_over passes (held store sender) (row_in table (held store sender) opcode) then Some []
      else signature_in table store sender opcode

  -- the event at the front of the bytes, if the number there holds an object that has it
  abbrev pub front_row : List InterfaceRow → Store (Kept U) → List ℕ → Option MessageRow
  front_row table store bytes = row_in table (held store (sender_of bytes)) (opcode_of bytes)

-- ---- the handling of a message

-- nothing, or an event that is handed out and open from then on, or an error that ends the session; and the objects
-- after it
pub data Handling (U : Type 0) : Type 0 where
  Swallows : Objects (Kept U) → Handling U
  HandsOut : SessionMessage → OpenEvent → Objects (Kept U) → Handling U
  Breaks : ProtocolError → Objects (Kept U) → Handling U

-- the event that is handed out, and what is kept of it while it is open
abbrev pub event_of : {U : Type 0} → WireMessage → Object (Kept U) → List (Argument IdParts Token) → SessionMessage
event_of m receiver args = record { sender = id_at m.sender receiver; opcode = m.opcode; args = args }

abbrev pub opened_of : {U : Type 0} → WireMessage → Object (Kept U) → MessageRow → Option IdParts → OpenEvent
opened_of m receiver row created = record { sender = id_at m.sender receiver; is_destructor = row.is_destructor; created = created }

module _ {U : Type 0} (table : List InterfaceRow) (objects : Objects (Kept U)) where
  abbrev pub of_display : DisplayEvent → Handling U
  of_display (Fails code n text) = Breaks (told_error table objects.store code n text) objects
  of_display (Deletes n) = Swallows (record objects { store = deleted objects.store n })
  of_display Unreadable = Breaks (error_of table wrong.Malformed) objects

  -- an event after its arguments were gone through: it is swallowed if the client destroyed its receiver
  abbrev pub of_converted : WireMessage → Object (Kept U) → MessageRow → Outcome U → Handling U
  of_converted m receiver row (Wrong w after) = Breaks (error_of table w) after
  of_converted m receiver row (Whole c args) =
      if receiver.value.client_destroyed then Swallows c.objects
      else HandsOut (event_of m receiver args) (opened_of m receiver row c.created) c.objects

  abbrev pub of_event : WireMessage → Option (Object (Kept U)) → Option MessageRow → Handling U
  of_event m (Some receiver) (Some row) =
      of_converted m receiver row (convert receiver.version receiver.value.client_destroyed (start objects row) [] m.args)
  of_event m _ _ = Breaks (error_of table wrong.Malformed) objects

  -- the handling of a message; one whose sender or opcode is unknown is malformed
  abbrev pub handling : WireMessage → Handling U
  handling m =
      if m.sender == 1 then of_display (display_event m.opcode m.args)
      else of_event m (held objects.store m.sender) (row_in table (held objects.store m.sender) m.opcode)

module _ {U : Type 0} where
  -- a message that is passed over does nothing; any other is handled
  abbrev pub handling_by : Bool → List InterfaceRow → Objects (Kept U) → WireMessage → Handling U
  handling_by passes table objects m =
      if is_passed_over passes (held objects.store m.sender) (row_in table (held objects.store m.sender) m.opcode) then Swallows objects
      else handling table objects m

-- the objects after it
abbrev pub objects_after : {U : Type 0} → Handling U → Objects (Kept U)
objects_after (Swallows objects) = objects
objects_after (HandsOut m event objects) = objects
objects_after (Breaks e objects) = objects

-- what is handed out
abbrev pub handed : {U : Type 0} → Handling U → List SessionMessage
handed (Swallows objects) = []
handed (HandsOut m event objects) = m ∷ []
handed (Breaks e objects) = []
