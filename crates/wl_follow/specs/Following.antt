-- What a follower keeps, and which message it tells next.
use Rattle.std.specs.Prelude.{◌≡◌, ℕ, ◌<◌, ◌≤◌, ◌⊎◌, ◌==◌, false, true, List, [], ◌∷◌, ◌++◌, if◌then◌else◌, length, None, Option, Some}
use Rattle.wl_wire.specs.declared.error.MessageParseError.TheVariants as errors
use Rattle.wl_wire.specs.Message.{WireMessage}
use Rattle.wl_wire.specs.Parse.{IsWhole, RefusesMessage, length_of, opcode_of, sender_of}
use Rattle.wl_wire.specs.Table.{InterfaceRow, MessageRow}
use Rattle.wl_link.specs.declared.object.Object.{Object}
use Rattle.wl_link.specs.Exchange.{Queue, nothing}
use Rattle.wl_link.specs.Store.{Store}
use Rattle.wl_follow.specs.Fronts.{IsUnknown, LacksPart, ReadsKnown, RefusesKnown}
use Rattle.wl_follow.specs.Objects.{NotesObjects, first_objects}
use Rattle.wl_follow.specs.Sent.{SentState, first_piece, less_sent, more_sent, nothing_sent, ready_part, ready_more, released_but, released_count, unfollowed, without_first}
use Rattle.wl_follow.specs.declared.follower.Stretch.{Stretch}
use Rattle.wl_follow.specs.declared.follower.Told.{Told}
use Rattle.wl_follow.specs.declared.follower.What.{What}
use Rattle.wl_follow.specs.declared.follower.What.TheVariants as what
use Rattle.wl_follow.specs.declared.objects.Deletions.TheVariants.{Unseen}
use Rattle.wl_follow.specs.declared.objects.UnknownInterfaces.TheVariants.{Anonymous}
use Rattle.wl_follow.specs.declared.side.Side.{Side}
use Rattle.wl_follow.specs.declared.side.Side.TheVariants.{Client, Server}

-- The objects; what each side sent and was not told; the stretches whose turn is still to come, in their order; and the side of the
-- one whose turn it is.
pub record FollowState : Type 0 where
  pub objects : Store (Unit {0})
  pub client : SentState
  pub server : SentState
  pub order : List Stretch
  pub side : Side

abbrev pub sent : Side → FollowState → SentState
sent Client f = f.client
sent Server f = f.server

abbrev pub with_sent : Side → SentState → FollowState → FollowState
with_sent Client s f = record f { client = s }
with_sent Server s f = record f { server = s }

-- nothing was said yet
abbrev pub new_follower : FollowState
new_follower = record { objects = first_objects; client = nothing_sent; server = nothing_sent; order = []; side = Client }

-- ---- what was sent

abbrev pub came_from : Side → Queue → FollowState → FollowState
came_from side q f = with_sent side (more_sent q.bytes q.tokens (sent side f)) f

-- so many bytes and tokens are taken back that the side sent last
abbrev pub taken_back : Side → ℕ → ℕ → FollowState → FollowState
taken_back side bytes tokens f = with_sent side (less_sent bytes tokens (sent side f)) f

abbrev pub stretch_of : Side → ℕ → List Stretch
stretch_of side count = if count == 0 then [] else (record { side = side; count = count } ∷ [])

-- All but the last `left` bytes of the side are to be told. Those that were not yet are a stretch, behind the others.
abbrev pub released_to : Side → ℕ → FollowState → FollowState
released_to side left f = record (with_sent side (released_but left (sent side f)) f) {
  order = f.order ++ stretch_of side (released_count left (sent side f));
}

-- ---- the front of what may be told of a side

module _ (table : List InterfaceRow) (side : Side) (objects : Store (Unit {0})) (s : SentState) where
  -- The bytes are no message: the object is not known, and the header says a length below its own; or the arguments cannot be read.
  abbrev pub IsNoMessage : Type 0
  IsNoMessage =
      (8 ≤ length (ready_part s).bytes)
      × ((IsUnknown table objects side (sender_of (ready_part s).bytes) (opcode_of (ready_part s).bytes) × (length_of (ready_part s).bytes < 8))
      ⊎ RefusesKnown table objects side (ready_part s) (λ signature. RefusesMessage (ready_part s).bytes signature (ready_part s).tokens errors.Malformed))

  -- nothing can be told before more may be
  abbrev pub HasNoneToTell : Type 0
  HasNoneToTell =
      (length (ready_part s).bytes < 8)
      ⊎ (IsUnknown table objects side (sender_of (ready_part s).bytes) (opcode_of (ready_part s).bytes) × LacksPart [] (ready_part s))
      ⊎ RefusesKnown table objects side (ready_part s) (λ signature. LacksPart signature (ready_part s))

  -- What is told of the front, which is this piece, and the objects and what is left after it. A fault, or what is no message, takes
  -- no piece: the side is followed no further.
  abbrev pub TellsFront : What → WireMessage → Queue → Store (Unit {0}) → SentState → Type 0
  TellsFront (what.Message interface) m piece objects' s' =
      (object : Object (Unit {0})) × (row : MessageRow) × ReadsKnown table objects side (ready_part s) object row m × (interface ≡ object.interface)
      × NotesObjects table Anonymous side Unseen object row m objects None objects' × (piece ≡ first_piece row.signature s) × (s' ≡ without_first row.signature s)
  TellsFront (what.Refused interface fault) m piece objects' s' =
      (object : Object (Unit {0})) × (row : MessageRow) × ReadsKnown table objects side (ready_part s) object row m × (interface ≡ object.interface)
      × NotesObjects table Anonymous side Unseen object row m objects (Some fault) objects' × (piece ≡ nothing) × (s' ≡ unfollowed s)
  TellsFront (what.Unknown sender opcode) m piece objects' s' =
      IsWhole (ready_part s).bytes × (sender ≡ sender_of (ready_part s).bytes) × (opcode ≡ opcode_of (ready_part s).bytes)
      × IsUnknown table objects side sender opcode × (objects' ≡ objects) × (piece ≡ first_piece [] s) × (s' ≡ without_first [] s)
  TellsFront what.Malformed m piece objects' s' = IsNoMessage × (objects' ≡ objects) × (piece ≡ nothing) × (s' ≡ unfollowed s)

-- ---- what is told next

-- it is the turn of the first stretch, behind which these are left
abbrev pub turned : Stretch → List Stretch → FollowState → FollowState
turned stretch rest f =
    with_sent stretch.side (ready_more stretch.count (sent stretch.side f)) (record f { order = rest; side = stretch.side })

module _ (table : List InterfaceRow) where
  -- nothing can be told of the side whose turn it is
  abbrev pub IsExhausted : FollowState → Type 0
  IsExhausted f = HasNoneToTell table f.side f.objects (sent f.side f)

  -- It was the turn of these stretches, one after another: each came once nothing could be told before it.
  abbrev pub Turns : FollowState → List Stretch → FollowState → Type 0
  Turns before [] after = after ≡ before
  Turns before (stretch ∷ stretches) after =
      (rest : List Stretch) × (before.order ≡ stretch ∷ rest) × IsExhausted before × Turns (turned stretch rest before) stretches after

  -- This is told, of this piece of what its side sent: the first that can be told, in the order of the stretches.
  pub record Tells (before : FollowState) (told : Told) (m : WireMessage) (piece : Queue) (after : FollowState) : Type 0 where
    pub stretches : List Stretch
    pub mid : FollowState
    pub objects : Store (Unit {0})
    pub left : SentState
    pub turns : Turns before stretches mid
    pub side : told.side ≡ mid.side
    pub front : TellsFront table mid.side mid.objects (sent mid.side mid) told.what m piece objects left
    pub after_is : after ≡ with_sent mid.side left (record mid { objects = objects })

  -- nothing can be told
  abbrev pub TellsNone : FollowState → FollowState → Type 0
  TellsNone before after = (stretches : List Stretch) × Turns before stretches after × IsExhausted after × (after.order ≡ [])
