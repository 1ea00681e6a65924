-- What a request does to a session.
use Rattle.std.specs.Prelude.{◌≡◌, ℕ, ◌+◌, ◌⊎◌, List, [], ◌∷◌, map, Bool, true, false, not, ◌==◌, slice_get, if◌then◌else◌, Option, None, Some, IsSome, is_none, is_some, option_map, Result, Ok, Err, MatchResult, MatchBool, MatchOption}
use Rattle.std.specs.List.{list_all}
use Rattle.wl_wire.specs.declared.argument.AllowNull.{AllowNull}
use Rattle.wl_wire.specs.declared.argument.AllowNull.TheVariants.{Yes, No}
use Rattle.wl_wire.specs.declared.argument.Argument.{Argument}
use Rattle.wl_wire.specs.declared.argument.Argument.TheVariants as arg
use Rattle.wl_wire.specs.declared.argument.ArgumentType.{ArgumentType}
use Rattle.wl_wire.specs.declared.argument.ArgumentType.TheVariants as kind
use Rattle.wl_wire.specs.declared.argument.Token.{Token}
use Rattle.wl_wire.specs.declared.error.IoFault.{IoFault}
use Rattle.wl_wire.specs.declared.interface.InterfaceId.{InterfaceId}
use Rattle.wl_wire.specs.declared.message.Message.{Message}
use Rattle.wl_wire.specs.Argument.{WireArgument}
use Rattle.wl_wire.specs.Message.{WireMessage}
use Rattle.wl_wire.specs.Table.{InterfaceRow, MessageRow}
use Rattle.wl_link.specs.declared.object.Object.{Object}
use Rattle.wl_link.specs.Exchange.{Queue}
use Rattle.wl_link.specs.Link.{LinkState, Wrote}
use Rattle.wl_link.specs.Puts.{lacks_memory}
use Rattle.wl_link.specs.Refusals.{first_refusal, when}
use Rattle.wl_link.specs.Store.{Store, client_range, stored, IsLeastAbsent, IsFull}
use Rattle.wl_wire.specs.MessageRows.{creates, fits, left_after, matches, next_interface, request_row}
use Rattle.wl_client.specs.declared.error.RequestError.{RequestError}
use Rattle.wl_client.specs.declared.error.RequestError.TheVariants as refused
use Rattle.wl_client.specs.declared.error.WaylandError.{WaylandError}
use Rattle.wl_client.specs.declared.error.WaylandError.TheVariants.{Io}
use Rattle.wl_client.specs.declared.objects.Kept.{Kept}
use Rattle.wl_client.specs.declared.request.Granted.{Granted}
use Rattle.wl_client.specs.ObjectId.{IdParts}
use Rattle.wl_client.specs.Objects.{given_up}
use Rattle.wl_client.specs.Session.{SessionState, last_possible_serial, null_parts, named, alive, noted, id_at, fresh_object}

-- a message of a session as contracts see it: its arguments are a plain list
pub record SessionMessage : Type 0 where
  pub sender : IdParts
  pub opcode : ℕ
  pub args : List (Argument IdParts Token)

abbrev pub session_content : Message IdParts Token → SessionMessage
session_content m = record { sender = m.sender_id; opcode = m.opcode; args = m.args.items }

-- ---- which requests are refused

-- the interface and the version of an object that a request creates
abbrev pub Spec : Type 0
Spec = InterfaceId × ℕ

-- what a request with a new id creates: what the caller says, or else what the table says, at the sender's version
abbrev pub child_of : MessageRow → ℕ → Option Spec → Option Spec
child_of row version (Some spec) = Some spec
child_of row version None = option_map (λ child. (child, version)) row.child_interface

abbrev pub names_no_interface : List InterfaceRow → Option Spec → Bool
names_no_interface table None = false
names_no_interface table (Some spec) = is_none (slice_get table spec.0.0)

-- the caller's interface is not the table's, or the caller's version is not the sender's
abbrev pub differ : Option InterfaceId → Option Spec → Bool
differ (Some child) (Some spec) = not (child.0 == spec.0.0)
differ _ _ = false

abbrev pub differ_in_version : Option InterfaceId → ℕ → Option Spec → Bool
differ_in_version (Some child) version (Some spec) = not (version == spec.1)
differ_in_version _ version _ = false

-- a new id is null until the session gives it a number
abbrev pub is_placeholder : Argument IdParts Token → Bool
is_placeholder (arg.NewId id) = id.number == 0
is_placeholder _ = true

abbrev pub null_fault : AllowNull → Option RequestError
null_fault Yes = None
null_fault No = Some refused.NullObject

abbrev pub interface_fault : {U : Type 0} → InterfaceId → Option (Object (Kept U)) → Option RequestError
interface_fault asked None = Some refused.InvalidId
interface_fault asked (Some x) = if fits asked x.interface then None else Some refused.WrongInterface

-- why an object argument is refused; the signature allows null or not, and the table asks for this interface
abbrev pub object_fault : {U : Type 0} → Store (Kept U) → AllowNull → InterfaceId → IdParts → Option RequestError
object_fault store null asked id =
    if id.number == 0 then null_fault null else interface_fault asked (alive (named store id))

-- why an argument is refused at a place of that type; the table asks for this interface next
abbrev pub argument_fault : {U : Type 0} → Store (Kept U) → ArgumentType → InterfaceId → Argument IdParts Token → Option RequestError
argument_fault store (kind.Object null) asked (arg.Object id) = object_fault store null asked id
argument_fault store _ asked _ = None

-- why each of the arguments is refused, from left to right
abbrev pub argument_faults : {U : Type 0} → Store (Kept U) → List ArgumentType → List InterfaceId → List (Argument IdParts Token)
    → List (Option RequestError)
argument_faults store [] asked args = []
argument_faults store (k ∷ kinds) asked [] = []
argument_faults store (k ∷ kinds) asked (a ∷ args) =
    argument_fault store k (next_interface asked) a ∷ argument_faults store kinds (left_after a asked) args

-- why a request that creates an object is refused for what it creates, in the order in which that is looked at
abbrev pub child_refusals : List InterfaceRow → MessageRow → ℕ → Option Spec → Bool → List (Argument IdParts Token) → List (Option RequestError)
child_refusals table row version spec has_data args =
    when (names_no_interface table spec) refused.UnknownInterface
    ∷ when (differ row.child_interface spec) refused.WrongChild
    ∷ when (differ_in_version row.child_interface version spec) refused.WrongChildVersion
    ∷ when (is_none (child_of row version spec)) refused.MissingChildSpec
    ∷ when (not has_data) refused.MissingObjectData
    ∷ when (not (list_all is_placeholder args)) refused.NotPlaceholder
    ∷ []

-- what is known of a request that is not refused
abbrev pub grant : MessageRow → ℕ → Option Spec → Granted
grant row version spec = record {
  child = if creates row then child_of row version spec else None;
  is_destructor = row.is_destructor;
}

abbrev pub unless : Option RequestError → Granted → Result Granted RequestError
unless None g = Ok g
unless (Some error) g = Err error

module _ {U : Type 0} (table : List InterfaceRow) (store : Store (Kept U)) where
  -- why a request of that sender and row is refused, in the order in which that is looked at
  abbrev pub refusals : Object (Kept U) → MessageRow → SessionMessage → Bool → Option Spec → List (Option RequestError)
  refusals sender row m has_data spec =
      when sender.value.client_destroyed refused.InvalidId
      ∷ when (not (matches row.signature m.args)) refused.BadSignature
      ∷ (if creates row then first_refusal (child_refusals table row sender.version spec has_data m.args) else None)
      ∷ argument_faults store row.signature row.arg_interfaces m.args

  -- before that it is looked at whether the sender's interface has the opcode
  abbrev pub checked_row : Object (Kept U) → Option MessageRow → SessionMessage → Bool → Option Spec → Result Granted RequestError
  checked_row sender None m has_data spec = Err refused.UnknownOpcode
  checked_row sender (Some row) m has_data spec =
      unless (first_refusal (refusals sender row m has_data spec)) (grant row sender.version spec)

  -- and before all, whether the id names a sender
  abbrev pub checked_sender : Option (Object (Kept U)) → SessionMessage → Bool → Option Spec → Result Granted RequestError
  checked_sender None m has_data spec = Err refused.InvalidId
  checked_sender (Some sender) m has_data spec =
      checked_row sender (request_row table sender.interface m.opcode) m has_data spec

  -- what is known of the request, or the first reason for which it is refused
  abbrev pub request_check : SessionMessage → Bool → Option Spec → Result Granted RequestError
  request_check m has_data spec = checked_sender (named store m.sender) m has_data spec

-- ---- the sending of a request that is not refused

-- the argument as it goes on the wire; the new object gets this number
abbrev pub wire_argument : ℕ → Argument IdParts Token → WireArgument
wire_argument n (arg.Int z) = arg.Int z
wire_argument n (arg.Uint u) = arg.Uint u
wire_argument n (arg.Fixed z) = arg.Fixed z
wire_argument n (arg.Str text) = arg.Str text
wire_argument n (arg.Object id) = arg.Object id.number
wire_argument n (arg.NewId id) = arg.NewId n
wire_argument n (arg.Array bytes) = arg.Array bytes
wire_argument n (arg.Fd token) = arg.Fd token

abbrev pub wire_message : ℕ → SessionMessage → WireMessage
wire_message n m = record { sender = m.sender.number; opcode = m.opcode; args = map (wire_argument n) m.args }

-- a fault of the write takes the place of the stored error
abbrev pub error_after : Option WaylandError → Result (Unit {0}) IoFault → Option WaylandError
error_after error (Ok _) = error
error_after error (Err e) = Some (Io e)

-- an object with its number
abbrev pub Numbered : Type 0 → Type 0
Numbered U = ℕ × Object (Kept U)

module _ {U : Type 0} where
  abbrev pub id_of_new : Option (Numbered U) → IdParts
  id_of_new None = null_parts
  id_of_new (Some new) = id_at new.0 new.1

  abbrev pub number_of_new : Option (Numbered U) → ℕ
  number_of_new None = 0
  number_of_new (Some new) = new.0

  -- the sender, if the request ends it
  abbrev pub ended_by : Store (Kept U) → SessionMessage → Bool → Option (Numbered U)
  ended_by store m false = None
  ended_by store m true = option_map (λ x. (m.sender.number, x)) (named store m.sender)

  -- whether memory is asked for before the write: for a new object, or for the note of one that ends
  abbrev pub AsksForMemory : Option (Numbered U) → Option (Numbered U) → Type 0
  AsksForMemory new ended = IsSome new ⊎ MatchOption ended ⊥ (λ e. IsSome e.1.value.user_data)

module _ {T U : Type 0} where
  -- the new object is put at its number, and uses up a serial
  abbrev pub with_born : SessionState T U → Option (Numbered U) → SessionState T U
  with_born s None = s
  with_born s (Some new) = record s { store = stored s.store new.0 new.1; last_serial = s.last_serial + 1 }

  -- a destructor's sender is no longer the client's, and noted if it has user data
  abbrev pub with_ended : SessionState T U → Option (Numbered U) → SessionState T U
  with_ended s None = s
  with_ended s (Some ended) = record s {
    store = given_up s.store ended.0 ended.1;
    notes = noted s.notes ended.1.value.user_data (id_at ended.0 ended.1);
  }

  -- The message is written. If there was memory for it, the new object is made and a destructor's sender given up, even if
  -- the write has a fault, which is then stored. If there was none, the session is as before, but for what the write did to
  -- the link.
  abbrev pub Written : (T → Queue → Result ℕ IoFault → T → Type 0) → SessionState T U → WireMessage → Option (Numbered U)
      → Option (Numbered U) → Result IdParts RequestError → SessionState T U → Type 0
  Written sends before m new ended answer after =
      (written : Result (Unit {0}) IoFault) × (link : LinkState T) × Wrote sends before.link m written link
      × MatchBool (lacks_memory written)
      ((answer ≡ Err refused.OutOfMemory) × (after ≡ record before { link = link }))
      ((answer ≡ Ok (id_of_new new))
      × (after ≡ with_ended (with_born (record before { link = link; error = error_after before.error written }) new) ended))

  -- or there was no memory before the write, and nothing is changed
  abbrev pub Sent : (T → Queue → Result ℕ IoFault → T → Type 0) → SessionState T U → SessionMessage → Option (Numbered U)
      → Option (Numbered U) → Result IdParts RequestError → SessionState T U → Type 0
  Sent sends before m new ended answer after =
      ((answer ≡ Err refused.OutOfMemory) × (after ≡ before) × AsksForMemory new ended)
      ⊎ Written sends before (wire_message (number_of_new new) m) new ended answer after

  abbrev pub new_child : SessionState T U → Spec → U → Object (Kept U)
  new_child s child u = fresh_object child.0 child.1 (s.last_serial + 1) (Some u)

  -- A new object gets the least number of the client's range that holds none, and the next serial. If no number or no serial
  -- is left, the request is refused.
  abbrev pub SentWithChild : (T → Queue → Result ℕ IoFault → T → Type 0) → SessionState T U → SessionMessage → Spec → U
      → Option (Numbered U) → Result IdParts RequestError → SessionState T U → Type 0
  SentWithChild sends before m child u ended answer after =
      (IsFull client_range before.store × (answer ≡ Err refused.IdsExhausted) × (after ≡ before))
      ⊎ ((n : ℕ) × IsLeastAbsent client_range before.store n
      × MatchBool (before.last_serial == last_possible_serial)
      ((answer ≡ Err refused.SerialsExhausted) × (after ≡ before))
      (Sent sends before m (Some (n, new_child before child u)) ended answer after))

  abbrev pub SentAs : (T → Queue → Result ℕ IoFault → T → Type 0) → SessionState T U → SessionMessage → Option Spec → Option U
      → Option (Numbered U) → Result IdParts RequestError → SessionState T U → Type 0
  SentAs sends before m None u ended answer after = Sent sends before m None ended answer after
  SentAs sends before m (Some child) None ended answer after = ⊥
  SentAs sends before m (Some child) (Some u) ended answer after = SentWithChild sends before m child u ended answer after

  -- what a request does, with this user data and this interface and version for the new object: it is refused and nothing is
  -- changed, or it is sent
  abbrev pub Requested : (T → Queue → Result ℕ IoFault → T → Type 0) → SessionState T U → SessionMessage → Option U → Option Spec
      → Result IdParts RequestError → SessionState T U → Type 0
  Requested sends before m u spec answer after =
      MatchResult (request_check before.table before.store m (is_some u) spec)
      (λ g. SentAs sends before m g.child u (ended_by before.store m g.is_destructor) answer after)
      (λ e. (answer ≡ Err e) × (after ≡ before))
