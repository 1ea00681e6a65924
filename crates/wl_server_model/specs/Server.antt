-- What a server holds: what all clients share, and what is held of each client id.
use Rattle.std.specs.Prelude.{ℕ, List, [], ◌∷◌, ◌++◌, ◌==◌, if◌then◌else◌, Option, None, Some, option_map, slice_get}
use Rattle.std.specs.List.{flat_map}
use Rattle.std.specs.Option.{option_map_or}
use Rattle.wl_wire.specs.Table.{InterfaceRow}
use Rattle.wl_server_client.specs.declared.notes.Happening.{Happening}
use Rattle.wl_server_client.specs.declared.notes.Happening.TheVariants as happened
use Rattle.wl_server_client.specs.declared.notes.Note.{Note}
use Rattle.wl_server_client.specs.declared.notes.Note.TheVariants.{Initialized, Disconnected, Destroyed}
use Rattle.wl_server_client.specs.declared.notes.queues.NoteNumbers.{NoteNumbers}
use Rattle.wl_server_client.specs.Globals.{Offer, new_offer}
use Rattle.wl_server_client.specs.Ids.{ClientParts, same_client}
use Rattle.wl_server_client.specs.Part.{Part}
use Rattle.wl_server_client.specs.Stored.{Stored}

-- the offer, the last serial given to a client, the clients by slot, the notes of all clients that were gathered, and the numbers
-- in time that the next notes get
pub record ServerState (T U G C : Type 0) : Type 0 where
  pub offer : Offer G
  pub last_client : ℕ
  pub clients : List (Option (Stored T U C))
  pub notes : List (Note U)
  pub numbers : NoteNumbers

-- what is held of one client id: its part, if it is stored, and the notes of it that were made and not taken, in order
pub record Seen (T U C : Type 0) : Type 0 where
  pub part : Option (Part T U C)
  pub made : List (Happening U)

-- ---- notes

-- what a note tells of this client
abbrev pub told_of : {U : Type 0} → ClientParts → Note U → List (Happening U)
told_of id (Initialized client) = if same_client client id then (happened.Initialized ∷ []) else []
told_of id (Disconnected client reason) = if same_client client id then (happened.Disconnected reason ∷ []) else []
told_of id (Destroyed client object u) = if same_client client id then (happened.Destroyed object u ∷ []) else []

-- what the notes tell of one client
abbrev pub notes_of : {U : Type 0} → ClientParts → List (Note U) → List (Happening U)
notes_of id notes = flat_map (told_of id) notes

-- ---- clients

-- a new server has no clients and no globals
abbrev pub new_server : {T U G C : Type 0} → List InterfaceRow → ServerState T U G C
new_server table = record { offer = new_offer table; last_client = 0; clients = []; notes = []; numbers = record { waiting = 0; made = 0 } }

module _ {T U C : Type 0} where
  -- nothing is held of a client
  abbrev pub nothing_seen : Seen T U C
  nothing_seen = record { part = None; made = [] }

  -- the client at a slot
  abbrev pub stored_at : ℕ → List (Option (Stored T U C)) → Option (Stored T U C)
  stored_at slot clients = option_map_or (λ s. s) (slice_get clients slot) None

  abbrev pub if_serial : ℕ → Option (Stored T U C) → Option (Stored T U C)
  if_serial serial None = None
  if_serial serial (Some s) = if s.serial == serial then Some s else None

  -- the client of that id
  abbrev pub client_at : ClientParts → List (Option (Stored T U C)) → Option (Stored T U C)
  client_at id clients = if_serial id.serial (stored_at id.slot clients)

  abbrev pub seen_as : List (Happening U) → Option (Stored T U C) → Seen T U C
  seen_as gathered c = record {
    part = option_map (λ s. s.part) c;
    made = gathered ++ option_map_or (λ s. s.made) c [];
  }

  -- what is held of the id: a look-up and a filter
  abbrev pub seen : {G : Type 0} → ClientParts → ServerState T U G C → Seen T U C
  seen id s = seen_as (notes_of id s.notes) (client_at id s.clients)
