-- What a client session holds, and the look-ups that its calls share.
use Rattle.std.specs.Prelude.{◌≡◌, ℕ, List, [], Bool, false, true, Option, None, Some, unwrap_or, if◌then◌else◌, ◌++◌, ◌∷◌}
use Rattle.wl_wire.specs.declared.interface.InterfaceId.{InterfaceId}
use Rattle.wl_wire.specs.Table.{InterfaceRow, anonymous_id, display_id}
use Rattle.wl_link.specs.declared.object.Object.{Object}
use Rattle.wl_link.specs.Identity.{Id, Objects, names}
use Rattle.wl_link.specs.Link.{LinkState, IsFresh, with_transport}
use Rattle.wl_link.specs.Store.{Store, empty_store, stored}
use Rattle.wl_client.specs.declared.error.WaylandError.{WaylandError}
use Rattle.wl_client.specs.declared.objects.Kept.{Kept}
use Rattle.wl_client.specs.declared.objects.Note.{Note}
use Rattle.wl_client.specs.declared.objects.Note.TheVariants.{Destroyed}
use Rattle.wl_client.specs.declared.event.OpenEvent.{OpenEvent}
use Rattle.wl_client.specs.ObjectId.{IdParts}

-- the table, the link to the server, the kept objects, the last serial given out, the error that ended the session,
-- the event that was handed out and not finished yet, the notes that were not taken yet, and whether messages of unknown
-- senders are passed over; whether the ids of objects that leave their numbers are kept, and those that were not taken yet
pub record SessionState (T U : Type 0) : Type 0 where
  pub table : List InterfaceRow
  pub link : LinkState T
  pub store : Store (Kept U)
  pub last_serial : ℕ
  pub error : Option WaylandError
  pub open_event : Option OpenEvent
  pub notes : List Note
  pub passes_over : Bool
  pub keeps_freed : Bool
  pub freed : List IdParts

-- what contracts see of a client: its session, and whether memory was refused in its last call
pub record ClientState (T U : Type 0) : Type 0 where
  pub session : SessionState T U
  pub refused : Bool

-- all of a session but its link
pub record Core (U : Type 0) : Type 0 where
  pub table : List InterfaceRow
  pub store : Store (Kept U)
  pub last_serial : ℕ
  pub error : Option WaylandError
  pub open_event : Option OpenEvent
  pub notes : List Note
  pub passes_over : Bool
  pub keeps_freed : Bool
  pub freed : List IdParts

-- the greatest serial
abbrev pub last_possible_serial : ℕ
last_possible_serial = 0xFFFFFFFFFFFFFFFF

-- ---- ids

abbrev pub null_parts : IdParts
null_parts = record { number = 0; serial = 0; interface = anonymous_id }

-- the parts of an id by which it names an object: all but its interface
abbrev pub id_of : IdParts → Id
id_of id = record { number = id.number; serial = id.serial }

-- the notes, with that of an object that is no longer the program's, if it has user data
abbrev pub noted : {U : Type 0} → List Note → Option U → IdParts → List Note
noted notes None id = notes
noted notes (Some _) id = notes ++ Destroyed id ∷ []

module _ {U : Type 0} where
  abbrev pub serial_of : Kept U → ℕ
  serial_of k = k.serial

  -- the id of the object that a number holds
  abbrev pub id_at : ℕ → Object (Kept U) → IdParts
  id_at n x = record { number = n; serial = x.value.serial; interface = x.interface }

  -- the object that an id names
  abbrev pub named : Store (Kept U) → IdParts → Option (Object (Kept U))
  named store id = names serial_of (id_of id) store

  -- the object, unless the client destroyed it
  abbrev pub alive : Option (Object (Kept U)) → Option (Object (Kept U))
  alive None = None
  alive (Some x) = if x.value.client_destroyed then None else Some x

  -- a new object, which nobody destroyed
  abbrev pub fresh_object : InterfaceId → ℕ → ℕ → Option U → Object (Kept U)
  fresh_object interface version serial user_data = record {
    interface = interface;
    version = version;
    value = record { serial = serial; user_data = user_data; client_destroyed = false; id_deleted = false };
  }

  -- the display: it has no user data
  abbrev pub display_object : Object (Kept U)
  display_object = fresh_object display_id 1 0 None

  -- the object, flagged as destroyed by the client, or as not
  abbrev pub flagged : Bool → Object (Kept U) → Object (Kept U)
  flagged destroyed x = record {
    interface = x.interface;
    version = x.version;
    value = record {
      serial = x.value.serial;
      user_data = x.value.user_data;
      client_destroyed = destroyed;
      id_deleted = x.value.id_deleted;
    };
  }

  -- the object, flagged as one whose id the server deleted
  abbrev pub with_id_deleted : Object (Kept U) → Object (Kept U)
  with_id_deleted x = record {
    interface = x.interface;
    version = x.version;
    value = record {
      serial = x.value.serial;
      user_data = x.value.user_data;
      client_destroyed = x.value.client_destroyed;
      id_deleted = true;
    };
  }

  abbrev pub with_user_data : U → Object (Kept U) → Object (Kept U)
  with_user_data u x = record {
    interface = x.interface;
    version = x.version;
    value = record {
      serial = x.value.serial;
      user_data = Some u;
      client_destroyed = x.value.client_destroyed;
      id_deleted = x.value.id_deleted;
    };
  }

module _ {T U : Type 0} where
  abbrev pub core_of : SessionState T U → Core U
  core_of s = record {
    table = s.table;
    store = s.store;
    last_serial = s.last_serial;
    error = s.error;
    open_event = s.open_event;
    notes = s.notes;
    passes_over = s.passes_over;
    keeps_freed = s.keeps_freed;
    freed = s.freed;
  }

  -- the session with another core, over the same link
  abbrev pub with_core : SessionState T U → Core U → SessionState T U
  with_core s c = record {
    table = c.table;
    link = s.link;
    store = c.store;
    last_serial = c.last_serial;
    error = c.error;
    open_event = c.open_event;
    notes = c.notes;
    passes_over = c.passes_over;
    keeps_freed = c.keeps_freed;
    freed = c.freed;
  }

  -- the kept objects and the last serial
  abbrev pub objects_of : SessionState T U → Objects (Kept U)
  objects_of s = record { store = s.store; last_serial = s.last_serial }

  abbrev pub with_objects : SessionState T U → Objects (Kept U) → SessionState T U
  with_objects s objects = record s { store = objects.store; last_serial = objects.last_serial }

  -- the session with another value of its transport
  abbrev pub over_transport : SessionState T U → T → SessionState T U
  over_transport s transport = record s { link = with_transport s.link transport }

  -- the session with the error that it had, or else with this one; no event is open
  abbrev pub failed_by : SessionState T U → WaylandError → SessionState T U
  failed_by s e = record s { error = Some (unwrap_or s.error e); open_event = None }

  -- a session over the transport in which nothing has happened
  abbrev pub IsConnected : List InterfaceRow → T → SessionState T U → Type 0
  IsConnected table transport s =
      (link : LinkState T) × IsFresh transport None link
      × (s ≡ record {
        table = table;
        link = link;
        store = stored empty_store 1 display_object;
        last_serial = 0;
        error = None;
        open_event = None;
        notes = [];
        passes_over = false;
        keeps_freed = false;
        freed = [];
      })
