-- The table of interfaces that the program reads: which rows its lines are, and what each adds.
use Rattle.std.specs.Prelude.{◌≡◌, ◌⊎◌, Bool, true, false, List, [], ◌∷◌, ◌++◌, map, codes, Option, None, MatchOption}
use Rattle.std.specs.List.{AllZip, flat_map}
use Rattle.std.specs.Option.{option_or, option_to_list}
use Rattle.wl_wire.specs.declared.argument.AllowNull.TheVariants.{No, Yes}
use Rattle.wl_wire.specs.declared.argument.ArgumentType.{ArgumentType}
use Rattle.wl_wire.specs.declared.argument.ArgumentType.TheVariants as kind
use Rattle.wl_wire.specs.declared.interface.InterfaceId.{InterfaceId}
use Rattle.wl_wire.specs.Table.{InterfaceRow, MessageRow}
use Rattle.wl_relay.specs.Words.{IsNumber, Word}

-- ---- arguments

-- an argument of a message: its type, and the place of the interface that it names, if it names one
abbrev pub Kind : Type 0
Kind = ArgumentType × Option InterfaceId

-- the word for an argument that names no interface
abbrev pub IsPlain : ArgumentType → Word → Type 0
IsPlain kind.Int word = word ≡ codes "int"
IsPlain kind.Uint word = word ≡ codes "uint"
IsPlain kind.Fixed word = word ≡ codes "fixed"
IsPlain (kind.Str No) word = word ≡ codes "string"
IsPlain (kind.Str Yes) word = word ≡ codes "string?"
IsPlain kind.Array word = word ≡ codes "array"
IsPlain kind.Fd word = word ≡ codes "fd"
IsPlain (kind.Object _) word = ⊥
IsPlain kind.NewId word = ⊥

-- what stands before the place of one that names an interface
abbrev pub IsPlaced : ArgumentType → Word → Type 0
IsPlaced (kind.Object No) front = front ≡ codes "object"
IsPlaced (kind.Object Yes) front = front ≡ codes "object?"
IsPlaced kind.NewId front = front ≡ codes "new"
IsPlaced _ front = ⊥

-- the word is the argument; a place stands after a colon, as a number
abbrev pub IsArgument : Kind → Word → Type 0
IsArgument k word = MatchOption k.1 (IsPlain k.0 word)
    (λ place. (front number : Word) × IsPlaced k.0 front × IsNumber place.0 number × (word ≡ front ++ 58 ∷ number))

-- the place that a new object's argument names
abbrev pub new_place : Kind → Option InterfaceId
new_place (kind.NewId, place) = place
new_place _ = None

-- the interface of the new object; of several, which no table may have, the last one's
abbrev pub child_of : List Kind → Option InterfaceId
child_of [] = None
child_of (k ∷ kinds) = option_or (child_of kinds) (new_place k)

-- the place that the argument of an object that is there names
abbrev pub object_place : Kind → Option InterfaceId
object_place (kind.Object _, place) = place
object_place _ = None

abbrev pub object_places : Kind → List InterfaceId
object_places k = option_to_list (object_place k)

-- the interfaces of the objects, in their order
abbrev pub places_of : List Kind → List InterfaceId
places_of kinds = flat_map object_places kinds

abbrev pub type_of : Kind → ArgumentType
type_of k = k.0

-- ---- messages and interfaces

-- the word says whether the message ends its object
abbrev pub IsEnding : Bool → Word → Type 0
IsEnding true word = word ≡ codes "destructor"
IsEnding false word = word ≡ codes "-"

-- The words are the message: its name, the version that has it first, whether it ends its object, and its arguments.
pub record IsMessage (m : MessageRow) (ws : List Word) : Type 0 where
  pub since : Word
  pub ends : Word
  pub arguments : List Word
  pub kinds : List Kind
  pub words_are : ws ≡ m.name ∷ since ∷ ends ∷ arguments
  pub since_is : IsNumber m.since since
  pub ends_is : IsEnding m.is_destructor ends
  pub arguments_are : AllZip IsArgument kinds arguments
  pub signature : m.signature ≡ map type_of kinds
  pub child : m.child_interface ≡ child_of kinds
  pub places : m.arg_interfaces ≡ places_of kinds

-- The words are the interface, which has no messages yet: its name and its version.
abbrev pub IsInterface : InterfaceRow → List Word → Type 0
IsInterface row ws =
    (version : Word) × (ws ≡ row.name ∷ version ∷ []) × IsNumber row.version version × (row.requests ≡ []) × (row.events ≡ [])

-- ---- rows

-- an interface follows those that are there
abbrev pub AddsInterface : List InterfaceRow → List Word → List InterfaceRow → Type 0
AddsInterface rows others rows' = (row : InterfaceRow) × IsInterface row others × (rows' ≡ rows ++ row ∷ [])

abbrev pub with_request : InterfaceRow → MessageRow → InterfaceRow
with_request row m = record row { requests = row.requests ++ m ∷ [] }

abbrev pub with_event : InterfaceRow → MessageRow → InterfaceRow
with_event row m = record row { events = row.events ++ m ∷ [] }

-- the last interface is changed so; there is one
abbrev pub ChangesLast : (InterfaceRow → InterfaceRow) → List InterfaceRow → List InterfaceRow → Type 0
ChangesLast change rows rows' =
    (front : List InterfaceRow) × (last : InterfaceRow) × (rows ≡ front ++ last ∷ []) × (rows' ≡ front ++ change last ∷ [])

-- the last interface has one more request
abbrev pub AddsRequest : List InterfaceRow → List Word → List InterfaceRow → Type 0
AddsRequest rows others rows' = (m : MessageRow) × IsMessage m others × ChangesLast (λ row. with_request row m) rows rows'

-- it has one more event
abbrev pub AddsEvent : List InterfaceRow → List Word → List InterfaceRow → Type 0
AddsEvent rows others rows' = (m : MessageRow) × IsMessage m others × ChangesLast (λ row. with_event row m) rows rows'

-- the words are a row, and this is what it makes of the interfaces before it
abbrev pub AddsRow : List InterfaceRow → List Word → List InterfaceRow → Type 0
AddsRow rows ws rows' =
    (others : List Word)
    × (((ws ≡ codes "interface" ∷ others) × AddsInterface rows others rows')
    ⊎ ((ws ≡ codes "request" ∷ others) × AddsRequest rows others rows')
    ⊎ ((ws ≡ codes "event" ∷ others) × AddsEvent rows others rows'))
