-- A policy: which globals a client may have, and which requests it may not make.
use Rattle.std.specs.Prelude.{◌≡◌, ◌≢◌, ℕ, ◌<◌, ◌≤◌, ◌⊎◌, Bool, true, false, ◌&&◌, ◌==◌, List, [], ◌∷◌, ◌++◌, length, set, replicate, slice_get, Option, None, Some}
use Rattle.std.specs.List.{list_any}
use Rattle.std.specs.Option.{option_map_or}
use Rattle.wl_wire.specs.declared.interface.InterfaceId.{InterfaceId}
use Rattle.wl_wire.specs.MessageRows.{creates, request_row}
use Rattle.wl_wire.specs.Table.{InterfaceRow, MessageRow, name_of}
use Rattle.wl_follow.specs.Objects.{LacksName}
use Rattle.wl_guard.specs.declared.policy.Entry.{Entry}
use Rattle.wl_guard.specs.declared.policy.Limits.{Limits}
use Rattle.wl_guard.specs.declared.policy.PolicyError.{PolicyError}
use Rattle.wl_guard.specs.declared.policy.PolicyError.TheVariants as error

-- The table of interfaces; by the place of an interface in it, up to which version a global of it may be told of and bound, 0 for
-- none; the requests that end the connection, and those that are dropped; and the limits.
pub record PolicyState : Type 0 where
  pub table : List InterfaceRow
  pub versions : List ℕ
  pub refused : List Entry
  pub ignored : List Entry
  pub limits : Limits

abbrev pub number_or_0 : Option ℕ → ℕ
number_or_0 None = 0
number_or_0 (Some n) = n

-- up to which version a global of the interface may be told of and bound; 0: not at all
abbrev pub allowed_version : PolicyState → InterfaceId → ℕ
allowed_version p interface = number_or_0 (slice_get p.versions interface.0)

-- the request is one of these
abbrev pub lists : List Entry → InterfaceId → ℕ → Bool
lists entries interface opcode = list_any (λ e. e.interface.0 == interface.0 && e.opcode == opcode) entries

-- nothing is allowed, and no request is named
abbrev pub new_policy : List InterfaceRow → Limits → PolicyState
new_policy table limits = record { table = table; versions = replicate (length table) 0; refused = []; ignored = []; limits = limits }

-- ---- a table that lets the client choose

-- The request makes an object of the anonymous interface: which one it is to be, the client says by other arguments. Of the request
-- `wl_registry.bind` the table says nothing here.
abbrev pub is_chosen : Option InterfaceId → Bool
is_chosen None = false
is_chosen (Some child) = child.0 == 0

abbrev pub lets_choose : InterfaceRow → Bool
lets_choose row = list_any (λ m. is_chosen m.child_interface) row.requests

-- the interface at this place has such a request
abbrev pub lets_choose_at : List InterfaceRow → ℕ → Bool
lets_choose_at table n = option_map_or lets_choose (slice_get table n) false

-- no interface has one
abbrev pub LetsNoneChoose : List InterfaceRow → Type 0
LetsNoneChoose table = (n : ℕ) → n < length table → lets_choose_at table n ≡ false

-- why a table is refused: the first interface that has one; or there was no memory
abbrev pub RefusesTable : List InterfaceRow → PolicyError → Type 0
RefusesTable table (error.UnnamedChild interface) =
    (lets_choose_at table interface.0 ≡ true) × ((n : ℕ) → n < interface.0 → lets_choose_at table n ≡ false)
RefusesTable table error.OutOfMemory = LetsNoneChoose table
RefusesTable table _ = ⊥

-- ---- names

-- an interface of the program, which is none of the fixed four, has this name
abbrev pub IsNamed : List InterfaceRow → List ℕ → InterfaceId → Type 0
IsNamed table name interface = (4 ≤ interface.0) × (interface.0 < length table) × (name_of table interface.0 ≡ name)

-- why a name is refused: no interface of the table has it, or a fixed one has
abbrev pub RefusesName : List InterfaceRow → List ℕ → PolicyError → Type 0
RefusesName table name error.UnknownInterface = LacksName table name
RefusesName table name error.Fixed = (n : ℕ) × (n < 4) × (n < length table) × (name_of table n ≡ name)
RefusesName table name _ = ⊥

abbrev pub name_in : Option MessageRow → Option (List ℕ)
name_in None = None
name_in (Some row) = Some row.name

-- the request of this name, of the interface of that name
pub record IsEntry (table : List InterfaceRow) (name request : List ℕ) (e : Entry) : Type 0 where
  pub interface : IsNamed table name e.interface
  pub named : name_in (request_row table e.interface e.opcode) ≡ Some request

-- none of these has this name; an opcode that does not fit into a message counts for none
abbrev pub NameNone : List MessageRow → List ℕ → Type 0
NameNone rows request = (opcode : ℕ) → opcode < 65536 → name_in (slice_get rows opcode) ≢ Some request

-- the interface has no request of this name
abbrev pub LacksRequest : List InterfaceRow → InterfaceId → List ℕ → Type 0
LacksRequest table interface request = (opcode : ℕ) → opcode < 65536 → name_in (request_row table interface opcode) ≢ Some request

-- why the name of a request is refused
abbrev pub RefusesRequest : List InterfaceRow → List ℕ → List ℕ → PolicyError → Type 0
RefusesRequest table name request error.UnknownRequest = (i : InterfaceId) × IsNamed table name i × LacksRequest table i request
RefusesRequest table name request e = RefusesName table name e

-- ---- rules

-- a global of the interface of this name may be told of and bound, up to that version
pub record Allows (p : PolicyState) (name : List ℕ) (version : ℕ) (p' : PolicyState) : Type 0 where
  pub interface : InterfaceId
  pub row : InterfaceRow
  pub named : IsNamed p.table name interface
  pub is : slice_get p.table interface.0 ≡ Some row
  pub some : 1 ≤ version
  pub within : version ≤ row.version
  pub after : p' ≡ record p { versions = set p.versions interface.0 version }

-- why it may not: the name; or the version is 0, or above that of the table
abbrev pub RefusesAllow : PolicyState → List ℕ → ℕ → PolicyError → Type 0
RefusesAllow p name version error.Version =
    (i : InterfaceId) × (row : InterfaceRow) × IsNamed p.table name i × (slice_get p.table i.0 ≡ Some row)
    × ((version ≡ 0) ⊎ (row.version < version))
RefusesAllow p name version e = RefusesName p.table name e

-- a request of this name ends the connection
abbrev pub Refuses : PolicyState → List ℕ → List ℕ → PolicyState → Type 0
Refuses p name request p' =
    (e : Entry) × IsEntry p.table name request e × (p' ≡ record p { refused = p.refused ++ e ∷ [] })

-- why there is none: the names; or there was no memory
abbrev pub RefusesRefuse : PolicyState → List ℕ → List ℕ → PolicyError → Type 0
RefusesRefuse p name request error.OutOfMemory = Unit {0}
RefusesRefuse p name request e = RefusesRequest p.table name request e

-- a request of this name is dropped: it makes no object and ends none
abbrev pub Ignores : PolicyState → List ℕ → List ℕ → PolicyState → Type 0
Ignores p name request p' =
    (e : Entry) × (row : MessageRow) × IsEntry p.table name request e × (request_row p.table e.interface e.opcode ≡ Some row)
    × (creates row ≡ false) × (row.is_destructor ≡ false)
    × (p' ≡ record p { ignored = p.ignored ++ e ∷ [] })

-- why it is not: the names; or it makes an object, or ends one; or there was no memory
abbrev pub RefusesIgnore : PolicyState → List ℕ → List ℕ → PolicyError → Type 0
RefusesIgnore p name request error.ChangesObjects =
    (e : Entry) × (row : MessageRow) × IsEntry p.table name request e × (request_row p.table e.interface e.opcode ≡ Some row)
    × ((creates row ≡ true) ⊎ (row.is_destructor ≡ true))
RefusesIgnore p name request e = RefusesRefuse p name request e

-- ---- what holds of each policy

-- a call that gave a policy a rule
pub data Given : Type 0 where
  Allowed : (name : List ℕ) (version : ℕ) → Given
  Refused : (name request : List ℕ) → Given
  Ignored : (name request : List ℕ) → Given

abbrev pub Gives : PolicyState → Given → PolicyState → Type 0
Gives p (Allowed name version) p' = Allows p name version p'
Gives p (Refused name request) p' = Refuses p name request p'
Gives p (Ignored name request) p' = Ignores p name request p'

-- calls one after another
abbrev pub GivesAll : PolicyState → List Given → PolicyState → Type 0
GivesAll p [] p' = p' ≡ p
GivesAll p (g ∷ given) p' = (mid : PolicyState) × Gives p g mid × GivesAll mid given p'

-- There is a version for each interface of the table. One that is allowed is of none of the fixed four, and at most the table's; each
-- request that is ignored makes no object and ends none; and no request lets the client choose.
pub record IsSound (p : PolicyState) : Type 0 where
  pub count : length p.versions ≡ length p.table
  pub named : (i : InterfaceId) → 1 ≤ allowed_version p i → 4 ≤ i.0
  pub within : (i : InterfaceId) (row : InterfaceRow) → slice_get p.table i.0 ≡ Some row → allowed_version p i ≤ row.version
  pub kept : (i : InterfaceId) (opcode : ℕ) (row : MessageRow) → lists p.ignored i opcode ≡ true → request_row p.table i opcode ≡ Some row
      → (creates row ≡ false) × (row.is_destructor ≡ false)
  pub chosen : LetsNoneChoose p.table
