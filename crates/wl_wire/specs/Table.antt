-- The table of interfaces: what a session knows of the protocol.
--
-- The first four interfaces are fixed: the interface of objects of which nothing is known, `wl_display`,
-- `wl_registry` and `wl_callback`. The caller's follow, in their order. The table is accepted if each name can go on the
-- wire and is taken once, each interface that a message names is in the table, and each message says of its new object
-- and of its objects what a session has to know.
use Rattle.std.specs.Prelude.{◌≡◌, ℕ, ◌+◌, ◌<◌, ◌⊎◌, List, [], ◌∷◌, ◌++◌, length, take, map, max, set, Option, Some, None, Result, Ok, Err, Bool, true, false, ◌||◌, ◌&&◌, not, ◌==◌, nat_le, nat_lt, is_none, IsTrue, IsSomeAnd, slice_get, count_by, codes}
use Rattle.std.specs.List.{list_any}
use Rattle.std.specs.Option.{option_map_or, option_to_list}
use Rattle.std.specs.Str.{bytes_eq}
use Rattle.std.specs.String.{string_bytes}
use Rattle.wl_wire.specs.declared.argument.AllowNull.TheVariants.{No}
use Rattle.wl_wire.specs.declared.argument.ArgumentType.{ArgumentType}
use Rattle.wl_wire.specs.declared.argument.ArgumentType.TheVariants.{Uint, Str, Object, NewId}
use Rattle.wl_wire.specs.declared.interface.Interface.{Interface}
use Rattle.wl_wire.specs.declared.interface.InterfaceId.{InterfaceId}
use Rattle.wl_wire.specs.declared.interface.MessageDesc.{MessageDesc}
use Rattle.wl_wire.specs.declared.protocol.TableError.{TableError}
use Rattle.wl_wire.specs.declared.protocol.TableError.TheVariants as fault

-- ---- rows

-- a request or an event
pub record MessageRow : Type 0 where
  pub name : List ℕ
  pub signature : List ArgumentType
  pub since : ℕ
  pub is_destructor : Bool
  pub child_interface : Option InterfaceId
  pub arg_interfaces : List InterfaceId

-- an interface
pub record InterfaceRow : Type 0 where
  pub name : List ℕ
  pub version : ℕ
  pub requests : List MessageRow
  pub events : List MessageRow

abbrev pub message_row : MessageDesc → MessageRow
message_row m = record {
  name = string_bytes m.name;
  signature = m.signature.items;
  since = m.since;
  is_destructor = m.is_destructor;
  child_interface = m.child_interface;
  arg_interfaces = m.arg_interfaces.items;
}

abbrev pub interface_row : Interface → InterfaceRow
interface_row i = record {
  name = string_bytes i.name;
  version = i.version;
  requests = map message_row i.requests.items;
  events = map message_row i.events.items;
}

abbrev pub interface_rows : List Interface → List InterfaceRow
interface_rows interfaces = map interface_row interfaces

-- ---- the fixed interfaces

-- the interface at a place of the table
abbrev pub interface_at : ℕ → InterfaceId
interface_at n = record { 0 = n }

-- the interface of objects of which nothing more is known; a message that asks for it takes an object of any interface
abbrev pub anonymous_id : InterfaceId
anonymous_id = interface_at 0

abbrev pub display_id : InterfaceId
display_id = interface_at 1

abbrev pub registry_id : InterfaceId
registry_id = interface_at 2

abbrev pub callback_id : InterfaceId
callback_id = interface_at 3

-- a message that the first version has, and that ends no object
abbrev pub first_message : List ℕ → List ArgumentType → Option InterfaceId → List InterfaceId → MessageRow
first_message name signature child_interface arg_interfaces = record {
  name = name;
  signature = signature;
  since = 1;
  is_destructor = false;
  child_interface = child_interface;
  arg_interfaces = arg_interfaces;
}

abbrev pub anonymous_row : InterfaceRow
anonymous_row = record { name = codes "<anonymous>"; version = 0; requests = []; events = [] }

abbrev pub display_row : InterfaceRow
display_row = record {
  name = codes "wl_display";
  version = 1;
  requests =
      first_message (codes "sync") (NewId ∷ []) (Some callback_id) []
      ∷ first_message (codes "get_registry") (NewId ∷ []) (Some registry_id) []
      ∷ [];
  events =
      first_message (codes "error") (Object No ∷ Uint ∷ Str No ∷ []) None (anonymous_id ∷ [])
      ∷ first_message (codes "delete_id") (Uint ∷ []) None []
      ∷ [];
}

-- the new object of a bind is of the interface that the request itself names
abbrev pub registry_row : InterfaceRow
registry_row = record {
  name = codes "wl_registry";
  version = 1;
  requests = first_message (codes "bind") (Uint ∷ Str No ∷ Uint ∷ NewId ∷ []) None [] ∷ [];
  events =
      first_message (codes "global") (Uint ∷ Str No ∷ Uint ∷ []) None []
      ∷ first_message (codes "global_remove") (Uint ∷ []) None []
      ∷ [];
}

-- its event ends the callback
abbrev pub callback_row : InterfaceRow
callback_row = record {
  name = codes "wl_callback";
  version = 1;
  requests = [];
  events = record (first_message (codes "done") (Uint ∷ []) None []) { is_destructor = true } ∷ [];
}

abbrev pub fixed_rows : List InterfaceRow
fixed_rows = anonymous_row ∷ display_row ∷ registry_row ∷ callback_row ∷ []

-- the table of the caller's interfaces
abbrev pub table_of : List Interface → List InterfaceRow
table_of interfaces = fixed_rows ++ interface_rows interfaces

-- the name of the interface at a place of the table
abbrev pub name_of : List InterfaceRow → ℕ → List ℕ
name_of table n = option_map_or (λ row. row.name) (slice_get table n) (codes "<unknown>")

-- ---- what a table is refused for

-- its requests and its events
abbrev pub messages : InterfaceRow → List MessageRow
messages row = row.requests ++ row.events

abbrev pub holds_zero : List ℕ → Bool
holds_zero name = list_any (λ byte. byte == 0) name

-- an interface of the list has the name
abbrev pub is_taken : List InterfaceRow → List ℕ → Bool
is_taken rows name = list_any (λ row. bytes_eq name row.name) rows

-- the child interface, if there is one, and the argument interfaces
abbrev pub interfaces_of : MessageRow → List InterfaceId
interfaces_of m = option_to_list m.child_interface ++ m.arg_interfaces

abbrev pub is_new_id : ArgumentType → Bool
is_new_id NewId = true
is_new_id _ = false

abbrev pub is_object : ArgumentType → Bool
is_object (Object _) = true
is_object _ = false

-- how many objects the message creates
abbrev pub new_ids : MessageRow → ℕ
new_ids m = count_by is_new_id m.signature

-- how many objects it is about
abbrev pub objects : MessageRow → ℕ
objects m = count_by is_object m.signature

-- the message has the fault, in a table of so many interfaces
abbrev pub is_message_at_fault : ℕ → MessageRow → TableError → Bool
is_message_at_fault count m (fault.ZeroInName _) = holds_zero m.name
is_message_at_fault count m (fault.UnknownInterface _) = list_any (λ id. nat_le count id.0) (interfaces_of m)
is_message_at_fault count m (fault.TooManyNewIds _) = nat_le 2 (new_ids m)
is_message_at_fault count m (fault.MissingChild _) = nat_le 1 (new_ids m) && is_none m.child_interface
is_message_at_fault count m (fault.ArgInterfaces _) = not (length m.arg_interfaces == objects m)
is_message_at_fault count m _ = false

-- an interface's name has the fault; `taken` says whether the name is taken
abbrev pub is_name_at_fault : Bool → List ℕ → TableError → Bool
is_name_at_fault taken name (fault.ZeroInName _) = holds_zero name
is_name_at_fault taken name (fault.DuplicateName _) = taken
is_name_at_fault taken name _ = false

-- the interface's name or one of its messages has the fault
abbrev pub is_at_fault : Bool → ℕ → InterfaceRow → TableError → Bool
is_at_fault taken count row fault =
    is_name_at_fault taken row.name fault || list_any (λ m. is_message_at_fault count m fault) (messages row)

-- the place that the fault names, in the caller's list
abbrev pub place : TableError → ℕ
place (fault.ZeroInName i) = i
place (fault.DuplicateName i) = i
place (fault.UnknownInterface i) = i
place (fault.TooManyNewIds i) = i
place (fault.MissingChild i) = i
place (fault.ArgInterfaces i) = i
place fault.OutOfMemory = 0

-- the place of the fault among those of one interface
abbrev pub rank : TableError → ℕ
rank (fault.ZeroInName _) = 0
rank (fault.DuplicateName _) = 1
rank (fault.UnknownInterface _) = 2
rank (fault.TooManyNewIds _) = 3
rank (fault.MissingChild _) = 4
rank (fault.ArgInterfaces _) = 5
rank fault.OutOfMemory = 6

-- an earlier interface has the name of the one at that place
abbrev pub is_repeated : List InterfaceRow → ℕ → Bool
is_repeated table n = option_map_or (λ row. is_taken (take n table) row.name) (slice_get table n) false

-- the interface that the fault names has it, in a table in which the caller's list begins at this place
abbrev pub HasFaultFrom : ℕ → List InterfaceRow → TableError → Type 0
HasFaultFrom begin table fault =
    let n = begin + place fault in
    IsSomeAnd (slice_get table n) (λ row. IsTrue (is_at_fault (is_repeated table n) (length table) row fault))

-- the interface that the fault names has it, in a table in which the caller's list follows the fixed interfaces
abbrev pub HasFault : List InterfaceRow → TableError → Type 0
HasFault table fault = HasFaultFrom 4 table fault

-- it names an earlier interface, or the same one and stands before the other there
abbrev pub ComesBefore : TableError → TableError → Type 0
ComesBefore fault other = (place fault < place other) ⊎ ((place fault ≡ place other) × (rank fault < rank other))

-- the caller's list, which begins at this place of the table, has the fault and none that comes before it
pub record IsFirstFaultFrom (begin : ℕ) (table : List InterfaceRow) (fault : TableError) : Type 0 where
  pub here : HasFaultFrom begin table fault
  pub first : (other : TableError) → ComesBefore other fault → ¬ (HasFaultFrom begin table other)

-- the table has the fault, and none that comes before it
abbrev pub IsFirstFault : List InterfaceRow → TableError → Type 0
IsFirstFault table fault = IsFirstFaultFrom 4 table fault

-- the table begins with the fixed interfaces, and no other has a fault
pub record IsAcceptedTable (table : List InterfaceRow) : Type 0 where
  pub fixed : take 4 table ≡ fixed_rows
  pub no_fault : (fault : TableError) → ¬ (HasFault table fault)

-- ---- a table that grows

-- the table once it was asked to take more rows: if they are taken, they follow the others; else it is as before
abbrev pub grown : List InterfaceRow → List InterfaceRow → Result (Unit {0}) TableError → List InterfaceRow
grown table rows (Ok _) = table ++ rows
grown table rows (Err _) = table

-- none of the new rows has a fault in the longer table
abbrev pub LacksFaults : List InterfaceRow → List InterfaceRow → Type 0
LacksFaults table rows = (fault : TableError) → ¬ (HasFaultFrom (length table) (table ++ rows) fault)

-- What the table answers: the first fault of the new rows. If they have none, they are taken, or memory was refused.
abbrev pub AnswersGrowth : List InterfaceRow → List InterfaceRow → Result (Unit {0}) TableError → Type 0
AnswersGrowth table rows (Ok _) = LacksFaults table rows
AnswersGrowth table rows (Err fault.OutOfMemory) = LacksFaults table rows
AnswersGrowth table rows (Err other) = IsFirstFaultFrom (length table) (table ++ rows) other

-- memory for more rows was refused
abbrev pub refused_growth : Result (Unit {0}) TableError → Bool
refused_growth (Err fault.OutOfMemory) = true
refused_growth _ = false

-- ---- an interface of the table that grows

-- What the interface at a place of the table is asked to take: more requests and events, and the version that has them.
pub record Extension : Type 0 where
  pub place : ℕ
  pub version : ℕ
  pub requests : List MessageRow
  pub events : List MessageRow

abbrev pub extension_of : InterfaceId → ℕ → List MessageDesc → List MessageDesc → Extension
extension_of i version requests events = record {
  place = i.0;
  version = version;
  requests = map message_row requests;
  events = map message_row events;
}

-- The new messages follow those that are there, so that each of these keeps its opcode. The version does not fall.
abbrev pub extended_row : Extension → InterfaceRow → InterfaceRow
extended_row more row = record {
  name = row.name;
  version = max row.version more.version;
  requests = row.requests ++ more.requests;
  events = row.events ++ more.events;
}

-- the table with the longer row in the place of the shorter one
abbrev pub extended_table : List InterfaceRow → Extension → List InterfaceRow
extended_table table more =
    option_map_or (λ row. set table more.place (extended_row more row)) (slice_get table more.place) table

-- the requests and the events that are new
abbrev pub new_messages : Extension → List MessageRow
new_messages more = more.requests ++ more.events

-- Only an interface of the program takes more messages: a fixed one is as unknown here as one that the table lacks.
abbrev pub is_place_at_fault : List InterfaceRow → ℕ → TableError → Bool
is_place_at_fault table n (fault.UnknownInterface _) = nat_lt n 4 || nat_le (length table) n
is_place_at_fault table n _ = false

-- there is no interface at that place to take the messages, or one of them has the fault
abbrev pub is_extension_at_fault : List InterfaceRow → ℕ → List MessageRow → TableError → Bool
is_extension_at_fault table n new fault =
    is_place_at_fault table n fault || list_any (λ m. is_message_at_fault (length table) m fault) new

-- they have the fault, and none of a lower rank; what is extended is one interface, so the place that is named is 0
pub record IsFirstOfExtension (table : List InterfaceRow) (n : ℕ) (new : List MessageRow) (fault : TableError) : Type 0 where
  pub one : place fault ≡ 0
  pub here : IsTrue (is_extension_at_fault table n new fault)
  pub first : (other : TableError) → rank other < rank fault → is_extension_at_fault table n new other ≡ false

-- they have no fault
abbrev pub LacksExtensionFaults : List InterfaceRow → ℕ → List MessageRow → Type 0
LacksExtensionFaults table n new = (fault : TableError) → is_extension_at_fault table n new fault ≡ false

-- the table once it was asked for that: with the longer row if it was taken, else as before
abbrev pub after_extension : List InterfaceRow → Extension → Result (Unit {0}) TableError → List InterfaceRow
after_extension table more (Ok _) = extended_table table more
after_extension table more (Err _) = table

-- What the table answers: the first fault of the extension. If it has none, it is taken, or memory was refused.
abbrev pub AnswersExtension : List InterfaceRow → Extension → Result (Unit {0}) TableError → Type 0
AnswersExtension table more (Ok _) = LacksExtensionFaults table more.place (new_messages more)
AnswersExtension table more (Err fault.OutOfMemory) = LacksExtensionFaults table more.place (new_messages more)
AnswersExtension table more (Err other) = IsFirstOfExtension table more.place (new_messages more) other

-- ---- both ways to grow

-- what a table is asked to take: more interfaces, or more messages of one that it has
pub data Growth : Type 0 where
  NewRows : List InterfaceRow → Growth
  LongerRow : Extension → Growth

abbrev pub table_after : List InterfaceRow → Growth → Result (Unit {0}) TableError → List InterfaceRow
table_after table (NewRows rows) answer = grown table rows answer
table_after table (LongerRow more) answer = after_extension table more answer

abbrev pub AnswersTo : List InterfaceRow → Growth → Result (Unit {0}) TableError → Type 0
AnswersTo table (NewRows rows) answer = AnswersGrowth table rows answer
AnswersTo table (LongerRow more) answer = AnswersExtension table more answer
