-- The flat structs, and the ids of the sessions that they stand for.
use Rattle.std.specs.Prelude.{◌++◌, ℕ, ℤ, pos, List, length, drop, nat_lt, if◌then◌else◌}
use Rattle.wl_client.specs.ObjectId.{IdParts as ProxyParts}
use Rattle.wl_server_client.specs.Ids.{ClientParts, GlobalParts, IdParts}
use Rattle.wl_flat.specs.declared.flat.FlatAction.{FlatAction}
use Rattle.wl_flat.specs.declared.flat.FlatArgument.{FlatArgument}
use Rattle.wl_flat.specs.declared.flat.FlatClientId.{FlatClientId}
use Rattle.wl_flat.specs.declared.flat.FlatGlobalId.{FlatGlobalId}
use Rattle.wl_flat.specs.declared.flat.FlatObjectId.{FlatObjectId}
use Rattle.wl_flat.specs.declared.flat.FlatTold.{FlatTold}

-- a count as a number of 32 bits; the greatest one if it does not fit
abbrev pub count_number : ℕ → ℕ
count_number n = if nat_lt n 4294967296 then n else 4294967295

-- lent memory after this was written to its front: behind it, it is as it was
abbrev pub over_front : {A : Type 0} → List A → List A → List A
over_front front memory = front ++ drop (length front) memory

-- ---- clients

abbrev pub client_of : FlatClientId → ClientParts
client_of c = record { slot = c.slot; serial = c.serial }

abbrev pub flat_client : ClientParts → FlatClientId
flat_client c = record { serial = c.serial; slot = c.slot }

abbrev pub no_client : FlatClientId
no_client = record { serial = 0; slot = 0 }

-- ---- globals

abbrev pub global_of : FlatGlobalId → GlobalParts
global_of g = record { name = g.name; serial = g.serial }

abbrev pub flat_global : GlobalParts → FlatGlobalId
flat_global g = record { serial = g.serial; name = g.name }

abbrev pub no_global : FlatGlobalId
no_global = record { serial = 0; name = 0 }

-- ---- objects

-- the null id
abbrev pub no_object : FlatObjectId
no_object = record { serial = 0; client = no_client; interface = 0; number = 0 }

-- an interface beyond 32 bits has no number of its own; no table is so long
abbrev pub interface_number : ℕ → ℕ
interface_number n = if nat_lt n 4294967296 then n else 4294967295

-- of a server's session
abbrev pub resource_of : FlatObjectId → IdParts
resource_of o = record { number = o.number; serial = o.serial; client = client_of o.client; interface = record { 0 = o.interface } }

abbrev pub flat_resource : IdParts → FlatObjectId
flat_resource id = record { serial = id.serial; client = flat_client id.client; interface = interface_number id.interface.0; number = id.number }

-- of a client's session
abbrev pub proxy_of : FlatObjectId → ProxyParts
proxy_of o = record { number = o.number; serial = o.serial; interface = record { 0 = o.interface } }

abbrev pub flat_proxy : ProxyParts → FlatObjectId
flat_proxy id = record { serial = id.serial; client = no_client; interface = interface_number id.interface.0; number = id.number }

-- ---- arguments

-- a number, or a descriptor
abbrev pub flat_number : ℕ → ℤ → FlatArgument
flat_number kind value = record { kind = kind; value = value; at = 0; length = 0; object = no_object; «data» = 0 }

-- a string or an array
abbrev pub flat_bytes : ℕ → ℕ → ℕ → FlatArgument
flat_bytes kind at count = record { kind = kind; value = pos 0; at = at; length = count; object = no_object; «data» = 0 }

-- an object, with the program's data of it
abbrev pub flat_object : ℕ → FlatObjectId → ℕ → FlatArgument
flat_object kind object user_data = record { kind = kind; value = pos 0; at = 0; length = 0; object = object; «data» = user_data }

-- ---- actions

-- all zeros
abbrev pub no_action : FlatAction
no_action = record {
  kind = 0;
  opcode = 0;
  arguments = 0;
  is_destructor = 0;
  sender = no_object;
  «data» = 0;
  created = no_object;
  version = 0;
  bytes = 0;
  global = no_global;
  forbidden_null = 0;
}

-- ---- what is told

-- all zeros
abbrev pub none_told : FlatTold
none_told = record { kind = 0; is_event = 0; number = 0; interface = 0; opcode = 0; arguments = 0; bytes = 0; is_last = 0 }
