-- All that the server holds of one client, and the look-ups that its calls share.
use Rattle.std.specs.Prelude.{ℕ, List, [], ◌∷◌, Bool, false, not, ◌==◌, ◌&&◌, if◌then◌else◌, Option, None, Some}
use Rattle.std.specs.List.{filter}
use Rattle.wl_wire.specs.declared.interface.InterfaceId.{InterfaceId}
use Rattle.wl_wire.specs.Table.{anonymous_id, display_id, registry_id}
use Rattle.wl_link.specs.declared.object.Object.{Object}
use Rattle.wl_link.specs.Identity.{Id, Objects, names}
use Rattle.wl_link.specs.Link.{LinkState}
use Rattle.wl_link.specs.Store.{Store, empty_store, stored}
use Rattle.wl_server_client.specs.declared.reading.action.OpenAction.{OpenAction}
use Rattle.wl_server_client.specs.declared.objects.Kept.{Kept}
use Rattle.wl_server_client.specs.declared.reading.violation.Violation.{Violation}
use Rattle.wl_server_client.specs.declared.notes.Happening.{Happening}
use Rattle.wl_server_client.specs.declared.notes.Happening.TheVariants.{Destroyed}
use Rattle.wl_server_client.specs.Ids.{ClientParts, IdParts}

-- The link to the client, the program's data of it, its objects and the last serial given out, whether it was killed, the
-- action that was handed out and not finished yet, the kept registries that the server tells of globals, in the order in which they
-- were made, and the notes that wait for the next cleanup, in order. If it was killed for a message, how that broke the protocol. The
-- client's id is not in here, since no step changes it.
pub record Part (T U C : Type 0) : Type 0 where
  pub link : LinkState T
  pub client_data : C
  pub store : Store (Kept U)
  pub last_serial : ℕ
  pub is_killed : Bool
  pub action : Option OpenAction
  pub registries : List Id
  pub waiting : List (Happening U)
  pub violation : Option Violation

-- the greatest serial
abbrev pub last_possible_serial : ℕ
last_possible_serial = 0xFFFFFFFFFFFFFFFF

-- ---- ids

-- the parts of an id by which it names an object of its client: all but the client and the interface
abbrev pub id_of : IdParts → Id
id_of id = record { number = id.number; serial = id.serial }

-- the client's null id, which names no object
abbrev pub null_id : ClientParts → IdParts
null_id client = record { number = 0; serial = 0; client = client; interface = anonymous_id }

-- the display of a client: object 1, which is kept as long as the client is stored
abbrev pub display_of : ClientParts → IdParts
display_of client = record { number = 1; serial = 0; client = client; interface = display_id }

abbrev pub same_id : Id → Id → Bool
same_id a b = (a.number == b.number) && (a.serial == b.serial)

module _ {U : Type 0} where
  abbrev pub serial_of : Kept U → ℕ
  serial_of k = k.serial

  -- the id of the object that a client's number holds
  abbrev pub id_at : ClientParts → ℕ → Object (Kept U) → IdParts
  id_at client n x = record { number = n; serial = x.value.serial; client = client; interface = x.interface }

  -- the object that an id of the client names
  abbrev pub named : Store (Kept U) → IdParts → Option (Object (Kept U))
  named store id = names serial_of (id_of id) store

  abbrev pub fresh_object : InterfaceId → ℕ → ℕ → Option U → Object (Kept U)
  fresh_object i version serial user_data = record {
    interface = i;
    version = version;
    value = record { serial = serial; user_data = user_data };
  }

  -- it has no user data
  abbrev pub display_object : Object (Kept U)
  display_object = fresh_object display_id 1 0 None

  abbrev pub with_user_data : U → Object (Kept U) → Object (Kept U)
  with_user_data u x = fresh_object x.interface x.version x.value.serial (Some u)

  -- the registries without the object, if it is one
  abbrev pub registries_without : List Id → ℕ → Object (Kept U) → List Id
  registries_without registries n x =
      if x.interface.0 == registry_id.0
      then filter (λ r. not (same_id r (record { number = n; serial = x.value.serial }))) registries
      else registries

  abbrev pub end_note : IdParts → Option U → List (Happening U)
  end_note id None = []
  end_note id (Some u) = Destroyed id u ∷ []

  -- the note of an object that is gone, if it had user data
  abbrev pub note_of_end : ClientParts → ℕ → Object (Kept U) → List (Happening U)
  note_of_end client n x = end_note (id_at client n x) x.value.user_data

module _ {T U C : Type 0} where
  abbrev pub objects_of : Part T U C → Objects (Kept U)
  objects_of p = record { store = p.store; last_serial = p.last_serial }

  abbrev pub with_link : Part T U C → LinkState T → Part T U C
  with_link p link = record p { link = link }

  -- a client in which nothing has happened
  abbrev pub fresh_part : LinkState T → C → Part T U C
  fresh_part link client_data = record {
    link = link;
    client_data = client_data;
    store = stored empty_store 1 display_object;
    last_serial = 0;
    is_killed = false;
    action = None;
    registries = [];
    waiting = [];
    violation = None;
  }
