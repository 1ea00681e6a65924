-- What an event that the program sends does.
use Rattle.std.specs.Prelude.{◌≡◌, ℕ, ◌⊎◌, List, [], ◌∷◌, ◌++◌, map, Bool, true, false, not, ◌==◌, if◌then◌else◌, Option, None, Some, IsSome, Result, Ok, Err, MatchResult, MatchBool}
use Rattle.wl_wire.specs.declared.argument.AllowNull.{AllowNull}
use Rattle.wl_wire.specs.declared.argument.AllowNull.TheVariants.{Yes, No}
use Rattle.wl_wire.specs.declared.argument.Argument.{Argument}
use Rattle.wl_wire.specs.declared.argument.Argument.TheVariants as arg
use Rattle.wl_wire.specs.declared.argument.ArgumentType.{ArgumentType}
use Rattle.wl_wire.specs.declared.argument.ArgumentType.TheVariants as kind
use Rattle.wl_wire.specs.declared.argument.Token.{Token}
use Rattle.wl_wire.specs.declared.error.IoFault.{IoFault}
use Rattle.wl_wire.specs.declared.error.IoFault.TheVariants as fault
use Rattle.wl_wire.specs.declared.interface.InterfaceId.{InterfaceId}
use Rattle.wl_wire.specs.declared.message.Message.{Message}
use Rattle.wl_wire.specs.Argument.{WireArgument}
use Rattle.wl_wire.specs.MessageRows.{event_row, fits, left_after, matches, next_interface}
use Rattle.wl_wire.specs.Message.{WireMessage}
use Rattle.wl_wire.specs.Table.{InterfaceRow, MessageRow}
use Rattle.wl_link.specs.declared.object.Object.{Object}
use Rattle.wl_link.specs.Exchange.{Queue, Sending}
use Rattle.wl_link.specs.Link.{LinkState, WroteBy}
use Rattle.wl_link.specs.Puts.{Said}
use Rattle.wl_link.specs.Reader.{Verdict}
use Rattle.wl_link.specs.Refusals.{first_refusal, when}
use Rattle.wl_link.specs.Store.{Store}
use Rattle.wl_server_client.specs.declared.error.EventError.{EventError}
use Rattle.wl_server_client.specs.declared.error.EventError.TheVariants as refused
use Rattle.wl_server_client.specs.declared.objects.Kept.{Kept}
use Rattle.wl_server_client.specs.Deeds.{Deed, Put, Sent}
use Rattle.wl_server_client.specs.Ids.{ClientParts, IdParts, same_client}
use Rattle.wl_server_client.specs.Objects.{told_of_removed, without_noted}
use Rattle.wl_server_client.specs.Part.{Part, named, with_link}
use Rattle.wl_server_client.specs.Telling.{Core, Tells, Told, closed_down, core_of, deletions, tells}

-- a message of a server as contracts see it: its arguments are a plain list
pub record SessionMessage : Type 0 where
  pub sender : IdParts
  pub opcode : ℕ
  pub args : List (Argument IdParts Token)

abbrev pub session_content : Message IdParts Token → SessionMessage
session_content m = record { sender = m.sender_id; opcode = m.opcode; args = m.args.items }

-- ---- which events are refused

abbrev pub null_fault : AllowNull → Option EventError
null_fault Yes = None
null_fault No = Some refused.NullObject

abbrev pub found_fault : {U : Type 0} → (InterfaceId → Bool) → Option (Object (Kept U)) → Option EventError
found_fault is_asked None = Some refused.InvalidId
found_fault is_asked (Some x) = when (not (is_asked x.interface)) refused.WrongInterface

-- the interface that the table names for a new object
abbrev pub is_child : Option InterfaceId → InterfaceId → Bool
is_child None i = false
is_child (Some child) i = child.0 == i.0

module _ {U : Type 0} (client : ClientParts) (store : Store (Kept U)) where
  -- why an id that is not null is refused; its object has to be of an interface that is asked for
  abbrev pub id_fault : (InterfaceId → Bool) → IdParts → Option EventError
  id_fault is_asked id =
      first_refusal (when (not (same_client id.client client)) refused.ForeignObject ∷ found_fault is_asked (named store id) ∷ [])

  -- why an argument is refused at a place of that type; the table asks for this interface next
  abbrev pub argument_fault : MessageRow → ArgumentType → InterfaceId → Argument IdParts Token → Option EventError
  argument_fault row (kind.Object null) asked (arg.Object id) = if id.number == 0 then null_fault null else id_fault (fits asked) id
  argument_fault row kind.NewId asked (arg.NewId id) =
      if id.number == 0 then Some refused.NullNewId else id_fault (is_child row.child_interface) id
  argument_fault row _ asked _ = None

  -- why each of the arguments is refused, from left to right
  abbrev pub argument_faults : MessageRow → List ArgumentType → List InterfaceId → List (Argument IdParts Token) → List (Option EventError)
  argument_faults row [] asked args = []
  argument_faults row (k ∷ kinds) asked [] = []
  argument_faults row (k ∷ kinds) asked (a ∷ args) =
      argument_fault row k (next_interface asked) a ∷ argument_faults row kinds (left_after a asked) args

  -- of an event that is not refused: the sender, and whether the event ends it
  abbrev pub granted : Object (Kept U) → MessageRow → Option EventError → Result (Object (Kept U) × Bool) EventError
  granted sender row None = Ok (sender, row.is_destructor)
  granted sender row (Some e) = Err e

  -- the arguments fit the signature, and none of them is refused
  abbrev pub checked_row : Object (Kept U) → Option MessageRow → SessionMessage → Result (Object (Kept U) × Bool) EventError
  checked_row sender None m = Err refused.UnknownOpcode
  checked_row sender (Some row) m =
      granted sender row
      (first_refusal
      (when (not (matches row.signature m.args)) refused.BadSignature ∷ argument_faults row row.signature row.arg_interfaces m.args))

  -- the sender's interface has an event of that opcode
  abbrev pub checked_sender : List InterfaceRow → Option (Object (Kept U)) → SessionMessage → Result (Object (Kept U) × Bool) EventError
  checked_sender table None m = Err refused.InvalidId
  checked_sender table (Some sender) m = checked_row sender (event_row table sender.interface m.opcode) m

  -- the sender and whether the event ends it, or the first reason for which the event is refused
  abbrev pub event_check : List InterfaceRow → SessionMessage → Result (Object (Kept U) × Bool) EventError
  event_check table m = checked_sender table (named store m.sender) m

-- ---- the sending of an event that is not refused

abbrev pub wire_argument : Argument IdParts Token → WireArgument
wire_argument (arg.Int z) = arg.Int z
wire_argument (arg.Uint u) = arg.Uint u
wire_argument (arg.Fixed z) = arg.Fixed z
wire_argument (arg.Str text) = arg.Str text
wire_argument (arg.Object id) = arg.Object id.number
wire_argument (arg.NewId id) = arg.NewId id.number
wire_argument (arg.Array bytes) = arg.Array bytes
wire_argument (arg.Fd token) = arg.Fd token

abbrev pub wire_message : SessionMessage → WireMessage
wire_message m = record { sender = m.sender.number; opcode = m.opcode; args = map wire_argument m.args }

abbrev pub said : SessionMessage → Said
said m = record { serial = m.sender.serial; message = wire_message m; makes_text = false }

-- the note of a sender that ends asks for memory before the write
abbrev pub AsksForMemory : {U : Type 0} → Object (Kept U) → Bool → Type 0
AsksForMemory sender ends = (ends ≡ true) × IsSome sender.value.user_data

module _ {U C : Type 0} where
  -- A destructor event ends its sender. If the event was put, the client is told that the number is free.
  abbrev pub ends_sender : ClientParts → Core U C → SessionMessage → Object (Kept U) → Bool → Verdict (Core U C) (Told U)
  ends_sender client c m sender false = tells c []
  ends_sender client c m sender true =
      record (tells (without_noted client c m.sender.number sender) (deletions m.sender.number)) {
        events = told_of_removed m.sender sender.value.user_data;
      }

  -- If the event could not be put, the client is killed as closed, and is told nothing more.
  abbrev pub ends_closed : ClientParts → Core U C → SessionMessage → Object (Kept U) → Bool → Verdict (Core U C) (Told U)
  ends_closed client c m sender ends = record (ends_sender client (closed_down c) m sender ends) { puts = [] }

module _ {T U C : Type 0} (sends : T → Queue → Result ℕ IoFault → T → Type 0) (client : ClientParts) where
  -- what follows from the result of the write
  abbrev pub SentAs : Part T U C → SessionMessage → Object (Kept U) → Bool → Result (Unit {0}) IoFault → LinkState T
      → Result (Unit {0}) EventError → Bool → List (Deed U) → Part T U C → Type 0
  SentAs before m sender ends (Ok _) link answer lacked did after =
      (rest : List (Deed U)) × Tells sends (ends_sender client (core_of before) m sender ends) link lacked rest after
      × (answer ≡ Ok tt) × (did ≡ Put (said m) ∷ rest)
  SentAs before m sender ends (Err fault.OutOfMemory) link answer lacked did after =
      (answer ≡ Err refused.OutOfMemory) × (lacked ≡ true) × (did ≡ []) × (after ≡ with_link before link)
  SentAs before m sender ends (Err other) link answer lacked did after =
      Tells sends (ends_closed client (core_of before) m sender ends) link lacked did after × (answer ≡ Ok tt)

  -- The event is written. If there is no memory for it, the answer is `OutOfMemory`; another fault kills the client.
  abbrev pub SendsGranted : Part T U C → SessionMessage → Object (Kept U) → Bool → Result (Unit {0}) EventError → Bool → List (Deed U)
      → Part T U C → Type 0
  SendsGranted before m sender ends answer lacked did after =
      (AsksForMemory sender ends × (answer ≡ Err refused.OutOfMemory) × (lacked ≡ true) × (did ≡ []) × (after ≡ before))
      ⊎ ((es : List Sending) × (rest : List (Deed U)) × (wrote : Result (Unit {0}) IoFault) × (link : LinkState T)
      × WroteBy sends before.link (wire_message m) es wrote link
      × SentAs before m sender ends wrote link answer lacked rest after × (did ≡ map Sent es ++ rest))

  -- The program sends an event. To a killed client nothing is sent, and the answer is `Ok`.
  abbrev pub SendsEvent : List InterfaceRow → Part T U C → SessionMessage → Result (Unit {0}) EventError → Bool → List (Deed U)
      → Part T U C → Type 0
  SendsEvent table before m answer lacked did after =
      MatchBool before.is_killed
      ((answer ≡ Ok tt) × (lacked ≡ false) × (did ≡ []) × (after ≡ before))
      (MatchResult (event_check client before.store table m)
      (λ g. SendsGranted before m g.0 g.1 answer lacked did after)
      (λ e. (answer ≡ Err e) × (lacked ≡ false) × (did ≡ []) × (after ≡ before)))
