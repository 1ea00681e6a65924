-- What flat rows say: the interfaces that they stand for, or the first row of an interface that names what is not there.
use Rattle.std.specs.Prelude.{◌≡◌, ◌⊎◌, ℕ, ◌+◌, List, [], ◌∷◌, ◌++◌, length, take, drop, not, ◌==◌, ◌&&◌, nat_le, if◌then◌else◌, Option, None, Some, option_map, slice_get, slice_range, Result, Ok, Err}
use Rattle.std.specs.Option.{option_and_then}
use Rattle.std.specs.Result.{result_map_both}
use Rattle.std.specs.Str.{is_utf8}
use Rattle.wl_wire.specs.declared.argument.AllowNull.{AllowNull}
use Rattle.wl_wire.specs.declared.argument.AllowNull.TheVariants.{No, Yes}
use Rattle.wl_wire.specs.declared.argument.ArgumentType.{ArgumentType}
use Rattle.wl_wire.specs.declared.argument.ArgumentType.TheVariants.{Int, Uint, Fixed, Str, Object, NewId, Array, Fd}
use Rattle.wl_wire.specs.declared.protocol.TableError.{TableError}
use Rattle.wl_wire.specs.declared.protocol.TableError.TheVariants as error
use Rattle.wl_wire.specs.Table.{InterfaceRow as Interface, MessageRow as Message, interface_at}
use Rattle.wl_flat.specs.declared.rows.ArgumentRow.{ArgumentRow}
use Rattle.wl_flat.specs.declared.rows.InterfaceRow.{InterfaceRow}
use Rattle.wl_flat.specs.declared.rows.MessageRow.{MessageRow}
use Rattle.wl_flat.specs.declared.rows.Rows.{Rows}
use Rattle.wl_flat.specs.declared.rows.RowError.{RowError}
use Rattle.wl_flat.specs.declared.rows.RowError.TheVariants as row
use Rattle.wl_flat.specs.declared.rows.TableFault.{TableFault}
use Rattle.wl_flat.specs.Flat.{count_number}

-- ---- names

-- the name at a place of the text, if all of it stands there and it is UTF-8
abbrev pub name_at : List ℕ → ℕ → ℕ → Option (List ℕ)
name_at text at n =
    let name = slice_range text at (at + n) in
    if nat_le (at + n) (length text) && is_utf8 name then Some name else None

-- ---- arguments

abbrev pub allow_null : ℕ → AllowNull
allow_null n = if n == 0 then No else Yes

-- the types, in the order of their kinds
abbrev pub types : AllowNull → List ArgumentType
types null = Int ∷ Uint ∷ Fixed ∷ Str null ∷ Object null ∷ NewId ∷ Array ∷ Fd ∷ []

-- the type of an argument, if there is one of that kind
abbrev pub type_of : ArgumentRow → Option ArgumentType
type_of a = slice_get (types (allow_null a.is_nullable)) a.kind

-- The message with the interface of one more argument. A new id may leave open which interface it has.
abbrev pub with_interface : ArgumentType → ℕ → Message → Message
with_interface NewId i m = if i == 0 then m else (record m { child_interface = Some (interface_at i) })
with_interface (Object null) i m = record m { arg_interfaces = m.arg_interfaces ++ interface_at i ∷ [] }
with_interface other i m = m

abbrev pub with_argument : ArgumentType → ℕ → Message → Message
with_argument t i m = record (with_interface t i m) { signature = m.signature ++ t ∷ [] }

-- the message with these arguments behind those that it has
abbrev pub with_arguments : List ArgumentRow → Message → Option Message
with_arguments [] m = Some m
with_arguments (a ∷ arguments) m = option_and_then (λ t. with_arguments arguments (with_argument t a.interface m)) (type_of a)

-- ---- messages

-- a message without arguments
abbrev pub named : MessageRow → List ℕ → Message
named m name = record {
  name = name;
  signature = [];
  since = m.since;
  is_destructor = not (m.is_destructor == 0);
  child_interface = None;
  arg_interfaces = [];
}

abbrev pub message_said : List ℕ → MessageRow → List ArgumentRow → Option Message
message_said text m arguments = option_and_then (λ name. with_arguments arguments (named m name)) (name_at text m.name_at m.name_length)

-- the rows that no interface has taken yet: of messages, and of arguments
abbrev pub Unread : Type 0
Unread = List MessageRow × List ArgumentRow

-- the first `n` of the rows, and those behind them, if there are as many
abbrev pub cut : {A : Type 0} → List A → ℕ → Option (List A × List A)
cut rows n = if nat_le n (length rows) then Some (take n rows, drop n rows) else None

-- one more message before the others
abbrev pub with_first : {A B : Type 0} → A → List A × B → List A × B
with_first x r = (x ∷ r.0, r.1)

-- the messages of these rows, each with the next arguments, and the arguments behind them
abbrev pub messages_said : List ℕ → List MessageRow → List ArgumentRow → Option (List Message × List ArgumentRow)
messages_said text [] arguments = Some ([], arguments)
messages_said text (m ∷ rows) arguments =
    option_and_then (λ a. option_and_then (λ message. option_map (with_first message) (messages_said text rows a.1)) (message_said text m a.0))
    (cut arguments m.arguments)

-- the next `n` messages, and the rows behind them
abbrev pub next_messages : List ℕ → ℕ → Unread → Option (List Message × Unread)
next_messages text n unread =
    option_and_then (λ m. option_map (λ r. (r.0, (m.1, r.1))) (messages_said text m.0 unread.1)) (cut unread.0 n)

-- ---- interfaces

abbrev pub interface : InterfaceRow → List ℕ → List Message → List Message → Interface
interface i name requests events = record { name = name; version = i.version; requests = requests; events = events }

-- the interface of the row, and the rows behind its messages and their arguments
abbrev pub interface_said : List ℕ → InterfaceRow → Unread → Option (Interface × Unread)
interface_said text i unread =
    option_and_then (λ name. option_and_then (λ r. option_map (λ e. (interface i name r.0 e.0, e.1)) (next_messages text i.events r.1))
    (next_messages text i.requests unread))
    (name_at text i.name_at i.name_length)

-- one more interface before the others, if they are all there
abbrev pub after : Interface → Result (List Interface) ℕ → Result (List Interface) ℕ
after i (Ok others) = Ok (i ∷ others)
after i (Err at) = Err at

abbrev pub then_said : ℕ → Option (Interface × Unread) → (Unread → Result (List Interface) ℕ) → Result (List Interface) ℕ
then_said at None others = Err at
then_said at (Some r) others = after r.0 (others r.1)

-- the interfaces of these rows, or the place of the first row that names what is not there
abbrev pub interfaces_from : List ℕ → ℕ → List InterfaceRow → Unread → Result (List Interface) ℕ
interfaces_from text at [] unread = Ok []
interfaces_from text at (i ∷ rows) unread = then_said at (interface_said text i unread) (interfaces_from text (at + 1) rows)

-- the interfaces that the rows stand for, or the place of the first of their interfaces that names what is not there
abbrev pub said_by : Rows → Result (List Interface) ℕ
said_by rows = interfaces_from rows.text.now 0 rows.interfaces.now (rows.messages.now, rows.arguments.now)

-- ---- faults

-- the interface at that place names what is not there
abbrev pub row_fault : ℕ → TableFault
row_fault at = record { interface = count_number at; fault = 1 }

-- the error of the table, as numbers
abbrev pub fault_of : TableError → TableFault
fault_of (error.ZeroInName at) = record { interface = count_number at; fault = 2 }
fault_of (error.DuplicateName at) = record { interface = count_number at; fault = 3 }
fault_of (error.UnknownInterface at) = record { interface = count_number at; fault = 4 }
fault_of (error.TooManyNewIds at) = record { interface = count_number at; fault = 5 }
fault_of (error.MissingChild at) = record { interface = count_number at; fault = 6 }
fault_of (error.ArgInterfaces at) = record { interface = count_number at; fault = 7 }
fault_of error.OutOfMemory = record { interface = 0; fault = 8 }

-- the answer of a table, with the fault in place of its error
abbrev pub table_answer : Result (Unit {0}) TableError → Result (Unit {0}) TableFault
table_answer answer = result_map_both (λ u. u) fault_of answer

-- the rows are not read: one names what is not there, or there was no memory
abbrev pub RefusesRows : Rows → TableFault → Type 0
RefusesRows rows fault = ((at : ℕ) × (said_by rows ≡ Err at) × (fault ≡ row_fault at)) ⊎ (fault ≡ fault_of error.OutOfMemory)

-- ---- one row

-- what was read is what is said; or nothing is said; or there was no memory
abbrev pub IsRead : {A B : Type 0} → Option A → (B → A) → Result B RowError → Type 0
IsRead said view (Ok x) = said ≡ Some (view x)
IsRead said view (Err row.NotThere) = said ≡ None
IsRead said view (Err row.OutOfMemory) = Unit {0}
