-- Messages of words that are handled in place.
use Rattle.std.specs.Prelude.{◌≡◌, ◌≤◌, ℕ, List, [], ◌∷◌, false, Option, None, Some, drop, length, take}
use Rattle.std.specs.Int.{w32, cast_signed}
use Rattle.wl_wire.specs.declared.argument.Argument.{Argument}
use Rattle.wl_wire.specs.declared.argument.Argument.TheVariants as arg
use Rattle.wl_wire.specs.declared.argument.ArgumentType.{ArgumentType}
use Rattle.wl_wire.specs.declared.argument.ArgumentType.TheVariants as kind
use Rattle.wl_wire.specs.declared.argument.Token.{Token}
use Rattle.wl_wire.specs.declared.message.Message.{Message}
use Rattle.wl_wire.specs.Parse.{IsWhole, length_of, opcode_of, payload_of, sender_of}
use Rattle.wl_wire.specs.Reading.{IsWord}
use Rattle.wl_wire.specs.Table.{InterfaceRow, MessageRow}
use Rattle.wl_link.specs.declared.object.Object.{Object}
use Rattle.wl_link.specs.Link.{LinkState}
use Rattle.wl_link.specs.Store.{Store, held}
use Rattle.wl_client.specs.declared.event.OpenEvent.{OpenEvent}
use Rattle.wl_client.specs.declared.event_in_place.InPlace.{InPlace}
use Rattle.wl_client.specs.declared.event_in_place.InPlace.TheVariants as place
use Rattle.wl_client.specs.declared.objects.Kept.{Kept}
use Rattle.wl_client.specs.ObjectId.{IdParts}
use Rattle.wl_client.specs.Handling.{row_in, signature_in}
use Rattle.wl_client.specs.Requests.{SessionMessage}
use Rattle.wl_client.specs.Session.{SessionState, id_at}
use Rattle.wl_client.specs.Inside.ReadingLoop.{GaveEvent, HandlesMessage, WentOn}

-- the argument of this type that a word is, if that is a number
abbrev pub number_argument : ArgumentType → ℕ → Option (Argument IdParts Token)
number_argument kind.Int n = Some (arg.Int (cast_signed w32 n))
number_argument kind.Uint n = Some (arg.Uint n)
number_argument kind.Fixed n = Some (arg.Fixed (cast_signed w32 n))
number_argument _ n = None

-- an argument of this type is a number
abbrev pub IsNumber : ArgumentType → Type 0
IsNumber kind.Int = Unit {0}
IsNumber kind.Uint = Unit {0}
IsNumber kind.Fixed = Unit {0}
IsNumber _ = ⊥

-- the payload begins with a word for each type, and these are the arguments that the words are
unfoldable pub NumbersAre : List ArgumentType → List ℕ → List (Argument IdParts Token) → Type 0
NumbersAre [] payload [] = Unit {0}
NumbersAre (k ∷ kinds) payload (b ∷ values) =
    (n : ℕ) × (4 ≤ length payload) × IsWord n (take 4 payload) × (number_argument k n ≡ Some b) × NumbersAre kinds (drop 4 payload) values
NumbersAre _ payload _ = ⊥

module _ {T U : Type 0} where
  -- The message at the front reads as a `delete_id` of this number: its sender has an event 1 of one word, the message is there
  -- whole, and it has one word after its header.
  pub record DeleteWaits (table : List InterfaceRow) (store : Store (Kept U)) (link : LinkState T) (n : ℕ) : Type 0 where
    pub opcode : opcode_of link.incoming.bytes ≡ 1
    pub signature : signature_in table store (sender_of link.incoming.bytes) (opcode_of link.incoming.bytes) ≡ Some (kind.Uint ∷ [])
    pub whole : IsWhole link.incoming.bytes
    pub twelve : length_of link.incoming.bytes ≡ 12
    pub word : IsWord n (payload_of link.incoming.bytes)

  -- The message at the front is this event, whose arguments are numbers, and this is open once it is handed out: its sender is
  -- an object that the client has not destroyed, and it is there whole.
  pub record NumbersWait (table : List InterfaceRow) (store : Store (Kept U)) (link : LinkState T) (m : SessionMessage) (opened : OpenEvent) : Type 0 where
    pub receiver : Object (Kept U)
    pub holds : held store (sender_of link.incoming.bytes) ≡ Some receiver
    pub live : receiver.value.client_destroyed ≡ false
    pub row : MessageRow
    pub has : row_in table (Some receiver) (opcode_of link.incoming.bytes) ≡ Some row
    pub whole : IsWhole link.incoming.bytes
    pub values : List (Argument IdParts Token)
    pub are : NumbersAre row.signature (payload_of link.incoming.bytes) values
    pub is : m ≡ record { sender = id_at (sender_of link.incoming.bytes) receiver; opcode = opcode_of link.incoming.bytes; args = values }
    pub opens : opened ≡ record { sender = id_at (sender_of link.incoming.bytes) receiver; is_destructor = row.is_destructor; created = None }

  -- the message at the front was handled in place, or nothing is changed
  abbrev pub HandledInPlace : SessionState T U → InPlace → Message IdParts Token → SessionState T U → Type 0
  HandledInPlace before place.Event event after = HandlesMessage before (GaveEvent event) after
  HandledInPlace before place.Deleted event after = HandlesMessage before WentOn after
  HandledInPlace before place.Not event after = after ≡ before
