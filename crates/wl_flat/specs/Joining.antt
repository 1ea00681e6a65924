-- One whole interface that joins a table: which row it is, what the row takes of it, and what is answered.
--
-- A row and the interface agree if the messages of the one are a front of the other's. In the interface the number of another one
-- is that of the table.
use Rattle.std.specs.Prelude.{◌≡◌, ◌⊎◌, ℕ, ◌+◌, ◌<◌, ◌≤◌, List, [], ◌∷◌, ◌++◌, length, map, take, replicate, Bool, true, false, not, ◌==◌, ◌&&◌, if◌then◌else◌, Option, None, Some, option_map, Result, Ok, Err, MatchOption, slice_get}
use Rattle.std.specs.Option.{option_and_then}
use Rattle.std.specs.Str.{bytes_eq}
use Rattle.wl_wire.specs.declared.argument.ArgumentType.{ArgumentType}
use Rattle.wl_wire.specs.declared.interface.InterfaceId.{InterfaceId}
use Rattle.wl_wire.specs.declared.protocol.TableError.{TableError}
use Rattle.wl_wire.specs.declared.protocol.TableError.TheVariants as error
use Rattle.wl_wire.specs.MessageRows.{type_number}
use Rattle.wl_wire.specs.Table.{Extension, Growth, InterfaceRow, LongerRow, MessageRow, NewRows, interface_at}
use Rattle.wl_flat.specs.declared.extending.ExtensionFault.{ExtensionFault}
use Rattle.wl_flat.specs.declared.joining.Fit.{Fit}
use Rattle.wl_flat.specs.declared.joining.Fit.TheVariants.{Nothing, Other, Row}
use Rattle.wl_flat.specs.declared.rows.Rows.{Rows}
use Rattle.wl_flat.specs.declared.rows.TableFault.{TableFault}
use Rattle.wl_flat.specs.Extending.{fault_as_told, has_more, place_of, rest}
use Rattle.wl_flat.specs.Flat.{count_number}
use Rattle.wl_flat.specs.Nulls.{allows_null}
use Rattle.wl_flat.specs.Rows.{RefusesRows, fault_of, row_fault, said_by}

-- ---- two messages of one opcode

abbrev pub same_flag : Bool → Bool → Bool
same_flag true b = b
same_flag false b = not b

-- they are the same type, and both or neither allow null
abbrev pub same_type : ArgumentType → ArgumentType → Bool
same_type there said = (type_number there == type_number said) && same_flag (allows_null there) (allows_null said)

abbrev pub same_types : List ArgumentType → List ArgumentType → Bool
same_types [] [] = true
same_types (t ∷ there) [] = false
same_types [] (u ∷ said) = false
same_types (t ∷ there) (u ∷ said) = same_type t u && same_types there said

abbrev pub same_interfaces : List InterfaceId → List InterfaceId → Bool
same_interfaces [] [] = true
same_interfaces (i ∷ there) [] = false
same_interfaces [] (j ∷ said) = false
same_interfaces (i ∷ there) (j ∷ said) = (i.0 == j.0) && same_interfaces there said

-- of the object that the message makes
abbrev pub same_child : Option InterfaceId → Option InterfaceId → Bool
same_child (Some i) (Some j) = i.0 == j.0
same_child (Some i) None = false
same_child None (Some j) = false
same_child None None = true

-- They are the same, but for which of them ends its object: that is not compared.
abbrev pub same_message : MessageRow → MessageRow → Bool
same_message there said =
    bytes_eq there.name said.name
    && (there.since == said.since)
    && same_types there.signature said.signature
    && same_child there.child_interface said.child_interface
    && same_interfaces there.arg_interfaces said.arg_interfaces

-- ---- an interface and a row of its name

-- the first opcode, counted from `n`, at which both lists have a message and these are not the same
abbrev pub unlike_from : ℕ → List MessageRow → List MessageRow → Option ℕ
unlike_from n [] said = None
unlike_from n (m ∷ there) [] = None
unlike_from n (m ∷ there) (k ∷ said) = if same_message m k then unlike_from (n + 1) there said else Some n

-- the message of that opcode differs; `is_event` is 1 of an event, and 0 of a request
abbrev pub unlike : InterfaceRow → ℕ → ℕ → ExtensionFault
unlike there is_event opcode = record {
  interface = 0;
  fault = 9;
  is_event = is_event;
  opcode = count_number opcode;
  version = there.version;
}

-- the first request in which they differ, or else the first event
abbrev pub contrast : InterfaceRow → InterfaceRow → Option ExtensionFault
contrast there said = elim (unlike_from 0 there.requests said.requests) [
  | Some opcode ↦ Some (unlike there 0 opcode)
  | None ↦ option_map (unlike there 1) (unlike_from 0 there.events said.events)
]

-- ---- an interface and a table

abbrev pub fit_by : ℕ → Option ExtensionFault → Fit
fit_by place None = Row (interface_at place)
fit_by place (Some fault) = Other fault

abbrev pub fit_at : ℕ → Option InterfaceRow → InterfaceRow → Fit
fit_at place None said = Nothing
fit_at place (Some there) said = fit_by place (contrast there said)

-- what the table has of the interface: no row of its name, one that agrees, or one that differs
abbrev pub fit : List InterfaceRow → InterfaceRow → Fit
fit table said = elim (place_of table said.name) [ None ↦ Nothing | Some place ↦ fit_at place (slice_get table place) said ]

-- what the row at that place lacks of the interface, if it lacks anything
abbrev pub lacks : List InterfaceRow → ℕ → InterfaceRow → Option Extension
lacks table place said =
    option_and_then (λ there. if has_more there said then Some (rest place there said) else None) (slice_get table place)

-- ---- others of one name

-- The name of the interface with so many apostrophes behind it: `thing`, `thing'`, `thing''`, ..
abbrev pub primed : ℕ → InterfaceRow → InterfaceRow
primed n said = record said { name = said.name ++ replicate n 39 }

abbrev pub IsOther : Fit → Type 0
IsOther Nothing = ⊥
IsOther (Row id) = ⊥
IsOther (Other fault) = Unit {0}

-- It is named as the first of these that the table lacks, or with which it agrees there.
abbrev pub IsNamed : List InterfaceRow → InterfaceRow → InterfaceRow → Type 0
IsNamed table said named =
    (n : ℕ) × (named ≡ primed n said) × ((m : ℕ) → m < n → IsOther (fit table (primed m said))) × (¬ (IsOther (fit table named)))

-- ---- a table that takes it

-- the fault is of the one interface that was passed, so its place is 0
abbrev pub numbered : ℕ → Result (Unit {0}) TableError → Result ℕ ExtensionFault
numbered place (Ok u) = Ok (count_number place)
numbered place (Err e) = Err (fault_as_told (fault_of e))

-- nothing is changed
abbrev pub Refused : {S : Type 0} → S → ExtensionFault → Result ℕ ExtensionFault → S → Type 0
Refused before fault result after = (result ≡ Err fault) × (after ≡ before)

abbrev pub LacksMemory : {S : Type 0} → S → Result ℕ ExtensionFault → S → Type 0
LacksMemory before result after = Refused before (fault_as_told (fault_of error.OutOfMemory)) result after

module _ {S : Type 0} (Grows : S → Growth → Result (Unit {0}) TableError → S → Type 0) where
  -- it is a new row, the last one; or there was no memory for it
  abbrev pub AddsRow : List InterfaceRow → InterfaceRow → S → Result ℕ ExtensionFault → S → Type 0
  AddsRow table said before result after =
      ((answer : Result (Unit {0}) TableError) × Grows before (NewRows (said ∷ [])) answer after × (result ≡ numbered (length table) answer))
      ⊎ LacksMemory before result after

  -- it is the row at that place, which takes what it lacks
  abbrev pub TakesRest : List InterfaceRow → ℕ → InterfaceRow → S → Result ℕ ExtensionFault → S → Type 0
  TakesRest table place said before result after =
      MatchOption (lacks table place said) ((result ≡ Ok (count_number place)) × (after ≡ before))
      (λ more. (answer : Result (Unit {0}) TableError) × Grows before (LongerRow more) answer after × (result ≡ numbered place answer))

  abbrev pub JoinsBy : Fit → List InterfaceRow → InterfaceRow → S → Result ℕ ExtensionFault → S → Type 0
  JoinsBy Nothing table said before result after = AddsRow table said before result after
  JoinsBy (Row id) table said before result after = TakesRest table id.0 said before result after
  JoinsBy (Other fault) table said before result after = Refused before fault result after

  -- The interface joins a table in which its name has one row: one that differs refuses it.
  abbrev pub Joins : List InterfaceRow → InterfaceRow → S → Result ℕ ExtensionFault → S → Type 0
  Joins table said before result after = JoinsBy (fit table said) table said before result after

  -- The interface joins a table that may have others of its name; or there was no memory for a name.
  abbrev pub JoinsOthers : List InterfaceRow → InterfaceRow → S → Result ℕ ExtensionFault → S → Type 0
  JoinsOthers table said before result after =
      ((named : InterfaceRow) × IsNamed table said named × Joins table named before result after) ⊎ LacksMemory before result after

-- ---- the rows of one interface

abbrev pub only : List InterfaceRow → Option InterfaceRow
only [] = None
only (said ∷ []) = Some said
only (said ∷ other ∷ more) = None

-- The rows are those of one interface, of which `Joining` speaks; or they are not, or are not read, and nothing is changed.
abbrev pub JoinsRows : {S : Type 0} → (InterfaceRow → S → Result ℕ ExtensionFault → S → Type 0) → Rows → S → Result ℕ ExtensionFault → S → Type 0
JoinsRows Joining rows before result after =
    ((said : InterfaceRow) × (said_by rows ≡ Ok (said ∷ [])) × Joining said before result after)
    ⊎ ((interfaces : List InterfaceRow) × (said_by rows ≡ Ok interfaces) × (only interfaces ≡ None) × Refused before (fault_as_told (row_fault 0)) result after)
    ⊎ ((fault : TableFault) × RefusesRows rows fault × Refused before (fault_as_told fault) result after)

-- ---- what the table has then

-- the message, but for whether it ends its object
abbrev pub as_joined : MessageRow → MessageRow
as_joined m = record m { is_destructor = false }

-- The row at the place has all that the interface has: its messages begin with the interface's, which are the same but for which of
-- them ends its object, and its version is no lower.
pub record HasJoined (table : List InterfaceRow) (place : ℕ) (said : InterfaceRow) : Type 0 where
  pub there : InterfaceRow
  pub at : slice_get table place ≡ Some there
  pub version : said.version ≤ there.version
  pub requests : take (length said.requests) (map as_joined there.requests) ≡ map as_joined said.requests
  pub events : take (length said.events) (map as_joined there.events) ≡ map as_joined said.events

-- the number is that of such a row, which has the interface's name ..
abbrev pub IsJoined : List InterfaceRow → ℕ → InterfaceRow → Type 0
IsJoined table number said =
    (place : ℕ) × (number ≡ count_number place) × (has : HasJoined table place said) × (has.there.name ≡ said.name)

-- .. or that name with apostrophes behind it
abbrev pub IsJoinedAmong : List InterfaceRow → ℕ → InterfaceRow → Type 0
IsJoinedAmong table number said = (n : ℕ) × IsJoined table number (primed n said)
