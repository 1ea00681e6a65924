-- What is told of a connection: its messages, by a follower that stands beside the session.
use Rattle.std.specs.Prelude.{◌≡◌, ◌⊎◌, ℕ, ℤ, ◌+◌, ◌-◌, ◌==◌, ◌&&◌, nat_le, List, [], ◌∷◌, Bool, true, false, drop, length, map, take, MatchBool, Option, None, Some, Result, Ok, Err, if◌then◌else◌}
use Rattle.std.specs.Option.{option_map_or}
use Rattle.wl_wire.specs.declared.argument.Argument.{Argument}
use Rattle.wl_wire.specs.declared.argument.Argument.TheVariants as arg
use Rattle.wl_wire.specs.declared.argument.Token.{Token}
use Rattle.wl_wire.specs.declared.error.OutOfMemory.{OutOfMemory}
use Rattle.wl_wire.specs.declared.message.Message.{Message}
use Rattle.wl_wire.specs.Message.{WireMessage, content}
use Rattle.wl_wire.specs.Table.{InterfaceRow}
use Rattle.wl_link.specs.Exchange.{Queue}
use Rattle.wl_link.specs.Mailbox.{MailboxState}
use Rattle.wl_link.specs.Store.{held}
use Rattle.wl_follow.specs.Following.{FollowState, Tells, TellsNone, Turns, came_from, new_follower, released_to, taken_back}
use Rattle.wl_follow.specs.declared.follower.Stretch.{Stretch}
use Rattle.wl_follow.specs.declared.follower.Told.{Told}
use Rattle.wl_follow.specs.declared.follower.What.{What}
use Rattle.wl_follow.specs.declared.follower.What.TheVariants as what
use Rattle.wl_follow.specs.declared.side.Side.{Side}
use Rattle.wl_follow.specs.declared.side.Side.TheVariants.{Client, Server}
use Rattle.wl_follow.specs.Sides.{other_side}
use Rattle.wl_flat.specs.Arguments.{all_bytes, bytes_of, flat_argument}
use Rattle.wl_flat.specs.Arrivals.{MayArrive, RefusesArrival, mailbox_with}
use Rattle.wl_flat.specs.Descriptors.{Descriptors, put_in}
use Rattle.wl_flat.specs.Flat.{count_number, flat_number, interface_number, no_client, none_told, over_front}
use Rattle.wl_flat.specs.Kinds as kinds
use Rattle.wl_flat.specs.Sending.{descriptors_of, shown}
use Rattle.wl_flat.specs.declared.flat.FlatArgument.{FlatArgument}
use Rattle.wl_flat.specs.declared.flat.FlatObjectId.{FlatObjectId}
use Rattle.wl_flat.specs.declared.flat.FlatTold.{FlatTold}
use Rattle.wl_flat.specs.declared.status.Status.{Status}
use Rattle.wl_flat.specs.declared.status.Status.TheVariants as status
use Rattle.wl_flat.specs.declared.telling.Telling.{Telling}

-- nothing went over the connection yet
abbrev pub new_telling : Telling
new_telling = record { follower = new_follower; said = 0; said_tokens = 0; kept = None }

-- what is told of a client that is inserted: its messages are, if that was set
abbrev pub first_telling : Bool → Option Telling
first_telling true = Some new_telling
first_telling false = None

-- ---- what arrives, and what is to be sent

-- the number of a token that is told is that of the descriptor
abbrev pub token_of : ℤ → Token
token_of d = record { 0 = d }

abbrev pub as_tokens : List ℤ → List Token
as_tokens descriptors = map token_of descriptors

-- this arrived from the peer
abbrev pub came_in : Side → List ℕ → List ℤ → Telling → Telling
came_in peer bytes descriptors t = record t { follower = came_from peer (record { bytes = bytes; tokens = as_tokens descriptors }) t.follower }

-- the session did not take it
abbrev pub not_taken : Side → List ℕ → List ℤ → Telling → Telling
not_taken peer bytes descriptors t = record t { follower = taken_back peer (length bytes) (length descriptors) t.follower }

-- bytes and descriptors arrived, and are heard; or they are refused, and nothing is changed
abbrev pub Hears : Side → MailboxState → Descriptors → Telling → List ℕ → List ℤ → Status → MailboxState → Descriptors → Telling → Type 0
Hears peer m q t bytes descriptors s m' q' t' =
    ((s ≡ status.Ok) × (m' ≡ mailbox_with m q bytes descriptors) × (q' ≡ put_in q descriptors) × (t' ≡ came_in peer bytes descriptors t)
    × MayArrive m bytes descriptors)
    ⊎ (RefusesArrival m bytes descriptors s × (m' ≡ m) × (q' ≡ q) × (t' ≡ t))

-- What waits in the mailbox to be sent. A token that names no descriptor has the number -1.
abbrev pub waiting_in : MailboxState → Descriptors → Queue
waiting_in m q = record { bytes = m.waiting.bytes; tokens = as_tokens (map shown (descriptors_of q m.waiting.tokens)) }

-- what of it the follower has, and what it has not
abbrev pub said_part : Queue → Telling → Queue
said_part w t = record { bytes = take t.said w.bytes; tokens = take t.said_tokens w.tokens }

abbrev pub unsaid : Queue → Telling → Queue
unsaid w t = record { bytes = drop t.said w.bytes; tokens = drop t.said_tokens w.tokens }

-- All but the last `unread` bytes that arrived may be told, which the session has read; and behind them what it has written, as far as
-- that waits in the mailbox.
abbrev pub heard_to : Side → ℕ → Telling → Telling
heard_to peer unread t = record t { follower = released_to peer unread t.follower }

abbrev pub with_said : Side → Queue → Telling → Telling
with_said peer w t = record t {
  follower = came_from (other_side peer) (unsaid w t) t.follower;
  said = length w.bytes;
  said_tokens = length w.tokens;
}

abbrev pub caught_up : Side → ℕ → Queue → Telling → Telling
caught_up peer unread w t = heard_to (other_side peer) 0 (with_said peer w (heard_to peer unread t))

-- For want of memory it may end before that. Then the next call goes on, and nothing is lost or told twice.
abbrev pub CatchesUp : Side → ℕ → Queue → Telling → Result (Unit {0}) OutOfMemory → Telling → Type 0
CatchesUp peer unread w t (Ok _) t' = t' ≡ caught_up peer unread w t
CatchesUp peer unread w t (Err _) t' =
    (t' ≡ t) ⊎ (t' ≡ heard_to peer unread t) ⊎ (t' ≡ with_said peer w (heard_to peer unread t))

-- so many of the bytes in the mailbox were sent, with all tokens if that is a byte at least
abbrev pub left_off : ℕ → Telling → Telling
left_off n t = record t { said = t.said - n; said_tokens = if n == 0 then t.said_tokens else 0 }

-- ---- what is told next

-- The message that was kept; or the next one that the follower tells. There may be none, or no memory.
abbrev pub FindsNext : List InterfaceRow → Telling → Result (Option (Told × Message ℕ Token)) OutOfMemory → Telling → Type 0
FindsNext table t (Ok None) t' = (t.kept ≡ None) × TellsNone table t.follower t'.follower × (t' ≡ record t { follower = t'.follower })
FindsNext table t (Ok (Some found)) t' =
    ((t.kept ≡ Some found) × (t' ≡ record t { kept = None }))
    ⊎ ((t.kept ≡ None) × ((piece : Queue) × Tells table t.follower found.0 (content found.1) piece t'.follower) × (t' ≡ record t { follower = t'.follower }))
FindsNext table t (Err _) t' =
    (t.kept ≡ None) × ((stretches : List Stretch) × Turns table t.follower stretches t'.follower) × (t' ≡ record t { follower = t'.follower })

-- ---- as flat structs

-- the object of a number, of the interface that is known of it, and 0 if none is
abbrev pub told_object : FollowState → ℕ → FlatObjectId
told_object f number = record {
  serial = 0;
  client = no_client;
  interface = option_map_or (λ o. interface_number o.interface.0) (held f.objects number) 0;
  number = number;
}

abbrev pub no_held : Descriptors
no_held = record { passed = []; held = []; front = 0 }

-- an argument; of a descriptor its number
abbrev pub told_argument : FollowState → ℕ → Argument ℕ Token → FlatArgument
told_argument f at (arg.Fd t) = flat_number kinds.descriptor t.0
told_argument f at a = flat_argument (told_object f) (λ _. 0) no_held at a

abbrev pub told_arguments : FollowState → ℕ → List (Argument ℕ Token) → List FlatArgument
told_arguments f at [] = []
told_arguments f at (a ∷ args) = told_argument f at a ∷ told_arguments f (at + length (bytes_of a)) args

abbrev pub kind_of : What → ℕ
kind_of (what.Message interface) = kinds.message
kind_of (what.Refused interface fault) = kinds.message
kind_of (what.Unknown sender opcode) = kinds.unknown_message
kind_of what.Malformed = kinds.no_message

abbrev pub is_last : What → ℕ
is_last (what.Message interface) = 0
is_last (what.Refused interface fault) = 1
is_last (what.Unknown sender opcode) = 0
is_last what.Malformed = 1

abbrev pub is_event : Side → ℕ
is_event Client = 0
is_event Server = 1

-- the number of the sender, its interface and the opcode
abbrev pub sender_in : What → WireMessage → ℕ
sender_in (what.Message interface) m = m.sender
sender_in (what.Refused interface fault) m = m.sender
sender_in (what.Unknown sender opcode) m = sender
sender_in what.Malformed m = 0

abbrev pub interface_in : What → ℕ
interface_in (what.Message interface) = interface_number interface.0
interface_in (what.Refused interface fault) = interface_number interface.0
interface_in (what.Unknown sender opcode) = 0
interface_in what.Malformed = 0

abbrev pub opcode_in : What → WireMessage → ℕ
opcode_in (what.Message interface) m = m.opcode
opcode_in (what.Refused interface fault) m = m.opcode
opcode_in (what.Unknown sender opcode) m = opcode
opcode_in what.Malformed m = 0

-- the arguments of a message that was read
abbrev pub args_in : What → WireMessage → List (Argument ℕ Token)
args_in (what.Message interface) m = m.args
args_in (what.Refused interface fault) m = m.args
args_in (what.Unknown sender opcode) m = []
args_in what.Malformed m = []

abbrev pub flat_told : Told → WireMessage → FlatTold
flat_told told m = record {
  kind = kind_of told.what;
  is_event = is_event told.side;
  number = sender_in told.what m;
  interface = interface_in told.what;
  opcode = opcode_in told.what m;
  arguments = count_number (length (args_in told.what m));
  bytes = count_number (length (all_bytes (args_in told.what m)));
  is_last = is_last told.what;
}

-- the lent memory after a call
pub record LentTold : Type 0 where
  pub out : FlatTold
  pub arguments : List FlatArgument
  pub bytes : List ℕ

abbrev pub fits_told : List (Argument ℕ Token) → List FlatArgument → List ℕ → Bool
fits_told args arguments bytes = nat_le (length args) (length arguments) && nat_le (length (all_bytes args)) (length bytes)

-- What was found is handed out, if there is room for its arguments. Else it is kept, and `out` alone is written.
abbrev pub HandsTold : Telling → Told × Message ℕ Token → LentTold → Status → LentTold → Telling → Type 0
HandsTold t found lent s lent' t' =
    MatchBool (fits_told (args_in found.0.what (content found.1)) lent.arguments lent.bytes)
    ((s ≡ status.Ok) × (t' ≡ t)
    × (lent' ≡ record {
      out = flat_told found.0 (content found.1);
      arguments = over_front (told_arguments t.follower 0 (args_in found.0.what (content found.1))) lent.arguments;
      bytes = over_front (all_bytes (args_in found.0.what (content found.1))) lent.bytes;
    }))
    ((s ≡ status.TooSmall) × (t' ≡ record t { kept = Some found }) × (lent' ≡ record lent { out = flat_told found.0 (content found.1) }))

-- nothing is handed out, and `out` is all zeros
abbrev pub HandsNone : Status → Telling → LentTold → Status → LentTold → Telling → Type 0
HandsNone e t lent s lent' t' = (s ≡ e) × (t' ≡ t) × (lent' ≡ record lent { out = none_told })

abbrev pub HandsFound : Telling → Result (Option (Told × Message ℕ Token)) OutOfMemory → LentTold → Status → LentTold → Telling → Type 0
HandsFound t (Ok None) lent s lent' t' = HandsNone status.WouldBlock t lent s lent' t'
HandsFound t (Ok (Some found)) lent s lent' t' = HandsTold t found lent s lent' t'
HandsFound t (Err _) lent s lent' t' = HandsNone status.OutOfMemory t lent s lent' t'

-- the next message is told by this table
abbrev pub TellsNextTo : List InterfaceRow → Telling → LentTold → Status → LentTold → Telling → Type 0
TellsNextTo table t lent s lent' t' =
    (found : Result (Option (Told × Message ℕ Token)) OutOfMemory) × (mid : Telling) × FindsNext table t found mid × HandsFound mid found lent s lent' t'
