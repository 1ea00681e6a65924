-- Which objects are known after a message.
use Rattle.std.specs.Prelude.{◌≡◌, ◌≢◌, ℕ, ◌<◌, ◌⊎◌, Bool, true, false, ◌&&◌, ◌==◌, nat_le, nat_lt, if◌then◌else◌, List, [], ◌∷◌, length, Option, None, Some, MatchBool, MatchOption}
use Rattle.wl_wire.specs.declared.argument.Argument.TheVariants as arg
use Rattle.wl_wire.specs.declared.interface.InterfaceId.{InterfaceId}
use Rattle.wl_wire.specs.Argument.{WireArgument}
use Rattle.wl_wire.specs.Message.{WireMessage}
use Rattle.wl_wire.specs.Table.{InterfaceRow, MessageRow, anonymous_id, name_of}
use Rattle.wl_link.specs.declared.object.Object.{Object}
use Rattle.wl_link.specs.Store.{Store, client_range, empty_store, is_free, removed, server_range, stored}
use Rattle.wl_follow.specs.declared.objects.Deletions.{Deletions}
use Rattle.wl_follow.specs.declared.objects.Deletions.TheVariants.{Seen, Unseen}
use Rattle.wl_follow.specs.declared.objects.UnknownInterfaces.{UnknownInterfaces}
use Rattle.wl_follow.specs.declared.objects.UnknownInterfaces.TheVariants.{Anonymous, Refused}
use Rattle.wl_follow.specs.declared.side.Fault.{Fault}
use Rattle.wl_follow.specs.declared.side.Fault.TheVariants as fault
use Rattle.wl_follow.specs.declared.side.Side.{Side}
use Rattle.wl_follow.specs.declared.side.Side.TheVariants.{Client, Server}

abbrev pub object_of : InterfaceId → ℕ → Object (Unit {0})
object_of interface version = record { interface = interface; version = version; value = tt }

-- the objects of a session that begins: the display alone
abbrev pub first_objects : Store (Unit {0})
first_objects = stored empty_store 1 (object_of (record { 0 = 1 }) 1)

-- ---- a new number

-- the number is one of those that the side gives out; 0, which is nobody's, counts as the client's
abbrev pub is_own : Side → ℕ → Bool
is_own Client number = nat_lt number client_range.end
is_own Server number = nat_le server_range.first number

-- the number is no object's any more, unless it is the display's, which stays
abbrev pub freed : Store (Unit {0}) → ℕ → Store (Unit {0})
freed objects number = if number == 1 then objects else removed objects number

-- The server gives out its numbers again without a word, so a new object takes the place of one that has its number. A number of the
-- client first has to be deleted; but where deletions may not be seen, the new object takes it.
abbrev pub vacated : Side → Deletions → Store (Unit {0}) → ℕ → Store (Unit {0})
vacated Client Seen objects number = objects
vacated Client Unseen objects number = freed objects number
vacated Server deletions objects number = freed objects number

-- The number is given to an object of this interface. It is a fault if it is 0, or leaves one out, or if an object has it.
abbrev pub Gives : Store (Unit {0}) → ℕ → InterfaceId → ℕ → Option Fault → Store (Unit {0}) → Type 0
Gives objects number interface version None objects' =
    (is_free objects number ≡ true) × (objects' ≡ stored objects number (object_of interface version))
Gives objects number interface version (Some fault.NewId) objects' = (is_free objects number ≡ false) × (objects' ≡ objects)
Gives objects number interface version (Some _) objects' = ⊥

-- A side makes an object of this number. It is a fault, too, if the number is one of the other side.
abbrev pub Puts : Side → Deletions → Store (Unit {0}) → ℕ → InterfaceId → ℕ → Option Fault → Store (Unit {0}) → Type 0
Puts side deletions objects number interface version f objects' =
    MatchBool (is_own side number) (Gives (vacated side deletions objects number) number interface version f objects')
    ((f ≡ Some fault.NewId) × (objects' ≡ objects))

-- ---- a bind

-- the request `wl_registry.bind`
abbrev pub is_bind : Side → InterfaceId → Bool
is_bind Client interface = interface.0 == 2
is_bind Server interface = false

-- the name, the version and the new number of a bind
abbrev pub bind_of : List WireArgument → Option (List ℕ × (ℕ × ℕ))
bind_of (_ ∷ arg.Str (Some name) ∷ arg.Uint version ∷ arg.NewId number ∷ []) = Some (name, (version, number))
bind_of _ = None

-- no interface of the table has this name
abbrev pub LacksName : List InterfaceRow → List ℕ → Type 0
LacksName table name = (place : ℕ) → place < length table → name_of table place ≢ name

-- The interface that a bind names. One that the table lacks is anonymous, or there is none.
abbrev pub IsBound : List InterfaceRow → UnknownInterfaces → List ℕ → Option InterfaceId → Type 0
IsBound table unknown name (Some interface) =
    ((interface.0 < length table) × (name_of table interface.0 ≡ name))
    ⊎ (LacksName table name × (unknown ≡ Anonymous) × (interface ≡ anonymous_id))
IsBound table unknown name None = LacksName table name × (unknown ≡ Refused)

abbrev pub PutsBound : Deletions → Store (Unit {0}) → ℕ → Option InterfaceId → ℕ → Option Fault → Store (Unit {0}) → Type 0
PutsBound deletions objects number (Some interface) version f objects' = Puts Client deletions objects number interface version f objects'
PutsBound deletions objects number None version f objects' = (f ≡ Some fault.UnknownInterface) × (objects' ≡ objects)

abbrev pub NotesBind : List InterfaceRow → UnknownInterfaces → Deletions → Store (Unit {0}) → List WireArgument → Option Fault → Store (Unit {0}) → Type 0
NotesBind table unknown deletions objects args f objects' =
    MatchOption (bind_of args) ((f ≡ Some fault.Malformed) × (objects' ≡ objects))
    (λ b. (interface : Option InterfaceId) × IsBound table unknown b.0 interface × PutsBound deletions objects b.1.1 interface b.1.0 f objects')

-- ---- other messages

-- the event `wl_display.delete_id`
abbrev pub is_deletion : Side → InterfaceId → ℕ → Bool
is_deletion Client interface opcode = false
is_deletion Server interface opcode = interface.0 == 1 && opcode == 1

-- the number that it tells is free again
abbrev pub without_deleted : Store (Unit {0}) → List WireArgument → Store (Unit {0})
without_deleted objects (arg.Uint number ∷ []) = freed objects number
without_deleted objects _ = objects

-- the first new number among the arguments
abbrev pub new_number : List WireArgument → Option ℕ
new_number [] = None
new_number (arg.NewId number ∷ args) = Some number
new_number (_ ∷ args) = new_number args

-- a message makes an object of the interface that its row names, of the version of its sender
abbrev pub NotesChild : Side → Deletions → Store (Unit {0}) → InterfaceId → ℕ → List WireArgument → Option Fault → Store (Unit {0}) → Type 0
NotesChild side deletions objects child version args f objects' =
    MatchOption (new_number args) ((f ≡ None) × (objects' ≡ objects)) (λ number. Puts side deletions objects number child version f objects')

-- ---- a message

-- The objects after a message of this object, of this row of the table; or the fault for which they cannot be noted. A destructor
-- changes nothing: the number stays that of its object until it is deleted or used again.
abbrev pub NotesObjects : List InterfaceRow → UnknownInterfaces → Side → Deletions → Object (Unit {0}) → MessageRow → WireMessage → Store (Unit {0}) → Option Fault
    → Store (Unit {0}) → Type 0
NotesObjects table unknown side deletions object row m objects f objects' =
    MatchBool (is_bind side object.interface) (NotesBind table unknown deletions objects m.args f objects')
    (MatchBool (is_deletion side object.interface m.opcode) ((f ≡ None) × (objects' ≡ without_deleted objects m.args))
    (MatchOption row.child_interface ((f ≡ None) × (objects' ≡ objects))
    (λ child. NotesChild side deletions objects child object.version m.args f objects')))
