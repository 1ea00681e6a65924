-- Whole rows of interfaces, some of which a table has already: where a row contradicts the table, which rows are new to it, and
-- what the others have more.
--
-- A row and the interface of its name in the table agree if the one's messages are a front of the other's. In a row the number of
-- an interface is that of the table, where a name has one number: so to compare the numbers is to compare the names.
use Rattle.std.specs.Prelude.{◌≡◌, ◌⊎◌, ℕ, ◌+◌, ◌<◌, ◌≤◌, List, [], ◌∷◌, ◌++◌, length, map, take, drop, Bool, true, false, ◌==◌, ◌&&◌, ◌||◌, nat_lt, if◌then◌else◌, Option, None, Some, option_map, Result, Ok, Err, MatchResult, slice_get, unwrap_or}
use Rattle.std.specs.List.{position_from}
use Rattle.std.specs.Option.{option_and_then}
use Rattle.std.specs.Str.{bytes_eq}
use Rattle.wl_wire.specs.declared.argument.ArgumentType.{ArgumentType}
use Rattle.wl_wire.specs.declared.interface.InterfaceId.{InterfaceId}
use Rattle.wl_wire.specs.declared.protocol.TableError.{TableError}
use Rattle.wl_wire.specs.declared.protocol.TableError.TheVariants as error
use Rattle.wl_wire.specs.MessageRows.{type_number}
use Rattle.wl_wire.specs.Table.{Extension, Growth, InterfaceRow, LongerRow, MessageRow, NewRows, extension_of, interface_rows, is_taken}
use Rattle.wl_flat.specs.declared.extending.Mismatch.{Mismatch}
use Rattle.wl_flat.specs.declared.extending.ExtensionFault.{ExtensionFault}
use Rattle.wl_flat.specs.declared.extending.Longer.{Longer}
use Rattle.wl_flat.specs.declared.extending.Parts.{Parts as PartsHeld}
use Rattle.wl_flat.specs.declared.rows.TableFault.{TableFault}
use Rattle.wl_flat.specs.Flat.{count_number}
use Rattle.wl_flat.specs.Rows.{fault_of}

-- ---- two messages of one opcode

-- they name one interface, or one of them names none
abbrev pub agree_on : InterfaceId → InterfaceId → Bool
agree_on there said = (there.0 == said.0) || (there.0 == 0) || (said.0 == 0)

abbrev pub interfaces_agree : List InterfaceId → List InterfaceId → Bool
interfaces_agree [] [] = true
interfaces_agree (i ∷ there) [] = false
interfaces_agree [] (j ∷ said) = false
interfaces_agree (i ∷ there) (j ∷ said) = agree_on i j && interfaces_agree there said

-- of the object that the message makes
abbrev pub children_agree : Option InterfaceId → Option InterfaceId → Bool
children_agree (Some i) (Some j) = agree_on i j
children_agree (Some i) None = true
children_agree None child = true

-- the types are the same, no matter which of them allow null
abbrev pub types_agree : List ArgumentType → List ArgumentType → Bool
types_agree [] [] = true
types_agree (t ∷ there) [] = false
types_agree [] (u ∷ said) = false
types_agree (t ∷ there) (u ∷ said) = (type_number t == type_number u) && types_agree there said

-- Which of the two ends its object is not compared.
abbrev pub messages_agree : MessageRow → MessageRow → Bool
messages_agree there said =
    bytes_eq there.name said.name
    && (there.since == said.since)
    && types_agree there.signature said.signature
    && children_agree there.child_interface said.child_interface
    && interfaces_agree there.arg_interfaces said.arg_interfaces

-- ---- two interfaces of one name

-- the first opcode, counted from `n`, at which both lists have a message and these do not agree
abbrev pub differ_from : ℕ → List MessageRow → List MessageRow → Option ℕ
differ_from n [] said = None
differ_from n (m ∷ there) [] = None
differ_from n (m ∷ there) (k ∷ said) = if messages_agree m k then differ_from (n + 1) there said else Some n

abbrev pub at_request : ℕ → Mismatch
at_request opcode = record { is_event = false; opcode = opcode }

abbrev pub at_event : ℕ → Mismatch
at_event opcode = record { is_event = true; opcode = opcode }

-- the first request in which they differ, or else the first event
abbrev pub difference : InterfaceRow → InterfaceRow → Option Mismatch
difference there said = elim (differ_from 0 there.requests said.requests) [
  | Some opcode ↦ Some (at_request opcode)
  | None ↦ option_map at_event (differ_from 0 there.events said.events)
]

-- the row has a message or a version that the interface there lacks
abbrev pub has_more : InterfaceRow → InterfaceRow → Bool
has_more there said =
    nat_lt there.version said.version
    || nat_lt (length there.requests) (length said.requests)
    || nat_lt (length there.events) (length said.events)

-- ---- a row and a table

-- the number of the name in the table
abbrev pub place_of : List InterfaceRow → List ℕ → Option ℕ
place_of table name = position_from (λ row. bytes_eq name row.name) 0 table

-- the interface of that name
abbrev pub interface_there : List InterfaceRow → List ℕ → Option InterfaceRow
interface_there table name = option_and_then (slice_get table) (place_of table name)

-- a fault that a table may have, too
abbrev pub fault_as_told : TableFault → ExtensionFault
fault_as_told f = record { interface = f.interface; fault = f.fault; is_event = 0; opcode = 0; version = 0 }

abbrev pub flag : Bool → ℕ
flag b = if b then 1 else 0

-- the row at that place contradicts the interface there
abbrev pub contradiction : ℕ → InterfaceRow → Mismatch → ExtensionFault
contradiction at there d = record {
  interface = count_number at;
  fault = 9;
  is_event = flag d.is_event;
  opcode = count_number d.opcode;
  version = there.version;
}

-- if there is one
abbrev pub contradiction_of : List InterfaceRow → ℕ → InterfaceRow → Option ExtensionFault
contradiction_of table at said =
    option_and_then (λ there. option_map (contradiction at there) (difference there said)) (interface_there table said.name)

-- what is wrong with the row at that place: an earlier row has its name, or it contradicts the interface there
abbrev pub fault_of_row : List InterfaceRow → List InterfaceRow → ℕ → InterfaceRow → Option ExtensionFault
fault_of_row table earlier at said =
    if is_taken earlier said.name then Some (fault_as_told (fault_of (error.DuplicateName at)))
    else contradiction_of table at said

abbrev pub fault_at : List InterfaceRow → List InterfaceRow → ℕ → Option ExtensionFault
fault_at table rows at = option_and_then (fault_of_row table (take at rows) at) (slice_get rows at)

-- each name stands once among the rows, and no row contradicts the table
abbrev pub Agrees : List InterfaceRow → List InterfaceRow → Type 0
Agrees table rows = (at : ℕ) → fault_at table rows at ≡ None

-- the first row that is at fault has this one
abbrev pub IsFirstFaultOfRows : List InterfaceRow → List InterfaceRow → ExtensionFault → Type 0
IsFirstFaultOfRows table rows fault =
    (at : ℕ) × (fault_at table rows at ≡ Some fault) × ((earlier : ℕ) → earlier < at → fault_at table rows earlier ≡ None)

-- ---- what the rows have that the table lacks

-- The rows with names that are new to the table, and the place of each among all rows; and for each other row its place, and what
-- it has more than the interface of its name. All in the order of the rows.
pub record Parts : Type 0 where
  pub new_rows : List InterfaceRow
  pub new_at : List ℕ
  pub longer : List (ℕ × Extension)

abbrev pub no_parts : Parts
no_parts = record { new_rows = []; new_at = []; longer = [] }

abbrev pub new_part : ℕ → InterfaceRow → Parts
new_part at said = record { new_rows = said ∷ []; new_at = at ∷ []; longer = [] }

-- the messages of the row that come after those of the interface there, which is at that place of the table
abbrev pub rest : ℕ → InterfaceRow → InterfaceRow → Extension
rest place there said = record {
  place = place;
  version = said.version;
  requests = drop (length there.requests) said.requests;
  events = drop (length there.events) said.events;
}

abbrev pub longer_part : ℕ → ℕ → InterfaceRow → InterfaceRow → Parts
longer_part place at there said =
    if has_more there said then record { new_rows = []; new_at = []; longer = (at, rest place there said) ∷ [] } else no_parts

-- of the row at this place
abbrev pub part_of : List InterfaceRow → ℕ → InterfaceRow → Parts
part_of table at said = elim (place_of table said.name) [
  | None ↦ new_part at said
  | Some place ↦ elim (slice_get table place) [ None ↦ no_parts | Some there ↦ longer_part place at there said ]
]

abbrev pub joined : Parts → Parts → Parts
joined p q = record { new_rows = p.new_rows ++ q.new_rows; new_at = p.new_at ++ q.new_at; longer = p.longer ++ q.longer }

-- of these rows, the first of which is at this place
abbrev pub parts_from : List InterfaceRow → ℕ → List InterfaceRow → Parts
parts_from table at [] = no_parts
parts_from table at (said ∷ rows) = joined (part_of table at said) (parts_from table (at + 1) rows)

abbrev pub parts_of : List InterfaceRow → List InterfaceRow → Parts
parts_of table rows = parts_from table 0 rows

-- ---- the code's own

abbrev pub longer_seen : Longer → ℕ × Extension
longer_seen l = (l.at, extension_of l.id l.version l.requests.items l.events.items)

abbrev pub parts_seen : PartsHeld → Parts
parts_seen p = record { new_rows = interface_rows p.new_rows.items; new_at = p.new_at.items; longer = map longer_seen p.longer.items }

-- ---- a table that takes them

-- the core's fault of the row at that place; want of memory is told of no row
abbrev pub told_at : ℕ → TableFault → ExtensionFault
told_at at f = if f.fault == 8 then fault_as_told f else (record (fault_as_told f) { interface = count_number at })

-- the core's fault of the new rows, which stand at these places
abbrev pub told_of_new : List ℕ → TableFault → ExtensionFault
told_of_new new_at f = told_at (unwrap_or (slice_get new_at f.interface) 0) f

module _ {S : Type 0} (Grows : S → Growth → Result (Unit {0}) TableError → S → Type 0) where
  -- The interfaces take what the rows have more, one after the other. The first that is refused ends that; those before it stay
  -- extended.
  abbrev pub Lengthens : S → List (ℕ × Extension) → Result (Unit {0}) ExtensionFault → S → Type 0
  Lengthens before [] result after = (result ≡ Ok tt) × (after ≡ before)
  Lengthens before (more ∷ others) result after =
      (mid : S) × (answer : Result (Unit {0}) TableError) × Grows before (LongerRow more.1) answer mid
      × MatchResult answer (λ _. Lengthens mid others result after) (λ e. (result ≡ Err (told_at more.0 (fault_of e))) × (after ≡ mid))

  -- First the new rows are added, all of them or none. If they are refused, no interface is extended.
  abbrev pub Takes : S → Parts → Result (Unit {0}) ExtensionFault → S → Type 0
  Takes before parts result after =
      (mid : S) × (answer : Result (Unit {0}) TableError) × Grows before (NewRows parts.new_rows) answer mid
      × MatchResult answer (λ _. Lengthens mid parts.longer result after)
      (λ e. (result ≡ Err (told_of_new parts.new_at (fault_of e))) × (after ≡ mid))

  -- The rows are compared with the table before anything changes. A fault of theirs is told, and nothing is changed. If there is
  -- none, the table takes them, or there was no memory to take them apart.
  abbrev pub Extends : List InterfaceRow → List InterfaceRow → S → Result (Unit {0}) ExtensionFault → S → Type 0
  Extends table rows before result after =
      ((fault : ExtensionFault) × IsFirstFaultOfRows table rows fault × (result ≡ Err fault) × (after ≡ before))
      ⊎ (Agrees table rows × (result ≡ Err (fault_as_told (fault_of error.OutOfMemory))) × (after ≡ before))
      ⊎ (Agrees table rows × Takes before (parts_of table rows) result after)

-- ---- what the table has then

-- The table has what the row says: an interface of its name, which has a message at each opcode of the row that agrees with the
-- row's (`messages_agree`), and whose version is not lower.
pub record HasRow (table : List InterfaceRow) (said : InterfaceRow) : Type 0 where
  pub there : InterfaceRow
  pub found : interface_there table said.name ≡ Some there
  pub agrees : difference there said ≡ None
  pub whole : has_more there said ≡ false

-- The interface goes on from what it was: its name is the same, its messages stand first, and its version is no lower.
pub record GoesOn (before after : InterfaceRow) : Type 0 where
  pub name : after.name ≡ before.name
  pub version : before.version ≤ after.version
  pub requests : take (length before.requests) after.requests ≡ before.requests
  pub events : take (length before.events) after.events ≡ before.events

-- Each interface of the table is at its place, and goes on from what it was.
abbrev pub KeepsInterfaces : List InterfaceRow → List InterfaceRow → Type 0
KeepsInterfaces before after =
    (place : ℕ) (was : InterfaceRow) → slice_get before place ≡ Some was → (is : InterfaceRow) × (slice_get after place ≡ Some is) × GoesOn was is
