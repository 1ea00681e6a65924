-- What look-ups answer. They change nothing.
use Rattle.std.specs.Prelude.{ℕ, ◌+◌, List, [], ◌∷◌, ◌++◌, Bool, ◌==◌, if◌then◌else◌, Option, None, Some, length, map, option_map}
use Rattle.std.specs.FinMap as finmap
use Rattle.std.specs.Fmt.{decimal}
use Rattle.std.specs.Prelude.{codes}
use Rattle.wl_wire.specs.declared.interface.InterfaceId.{InterfaceId}
use Rattle.wl_wire.specs.declared.interface.ObjectInfo.{ObjectInfo}
use Rattle.wl_wire.specs.Table.{InterfaceRow, name_of}
use Rattle.wl_link.specs.declared.object.Object.{Object}
use Rattle.wl_link.specs.Link.{LinkState}
use Rattle.wl_link.specs.Store.{held}
use Rattle.wl_server_client.specs.declared.ids.global_id.GlobalInfo.{GlobalInfo}
use Rattle.wl_server_client.specs.declared.objects.Kept.{Kept}
use Rattle.wl_server_client.specs.declared.reading.violation.Violation.{Violation}
use Rattle.wl_server_client.specs.declared.globals.KeptGlobal.{KeptGlobal}
use Rattle.wl_server_client.specs.Globals.{global_of, is_visible}
use Rattle.wl_server_client.specs.Ids.{ClientParts, GlobalParts, IdParts}
use Rattle.wl_server_client.specs.Part.{Part, id_at, named}
use Rattle.wl_server_model.specs.Server.{ServerState, seen}
use Rattle.wl_server_client.specs.Stored.{Stored}

-- the function of the option's value, if there is one (`Option::and_then`)
abbrev pub and_then : {A B : Type 0} → Option A → (A → Option B) → Option B
and_then None f = None
and_then (Some x) f = f x

-- the id as a text: the name of its interface, the number, and the slot of its client
abbrev pub display_text : List InterfaceRow → IdParts → List ℕ
display_text table id = name_of table id.interface.0 ++ codes "@" ++ decimal id.number ++ codes "[" ++ decimal id.client.slot ++ codes "]"

-- how many bytes and tokens wait on the way in, and how many on the way out
abbrev pub waiting_in : {T : Type 0} → LinkState T → List ℕ
waiting_in l = length l.incoming.bytes ∷ length l.incoming.tokens ∷ length l.outgoing.bytes ∷ length l.outgoing.tokens ∷ []

abbrev pub info_at : {U : Type 0} → ℕ → Object (Kept U) → ObjectInfo
info_at n x = record { id = n; interface = x.interface; version = x.version }

-- the id of an object of that interface
abbrev pub id_if : {U : Type 0} → ClientParts → InterfaceId → ℕ → Object (Kept U) → Option IdParts
id_if client i n x = if x.interface.0 == i.0 then Some (id_at client n x) else None

-- the id of the object that a client's number holds, and its user data
abbrev pub held_at : {U : Type 0} → ClientParts → ℕ → Object (Kept U) → IdParts × Option U
held_at client n x = (id_at client n x, x.value.user_data)

abbrev pub id_if_stored : {T U C : Type 0} → ℕ → Option (Stored T U C) → List ClientParts
id_if_stored slot None = []
id_if_stored slot (Some s) = if s.part.is_killed then [] else (record { slot = slot; serial = s.serial } ∷ [])

-- the ids of the live clients from a slot on, by slot
abbrev pub live_from : {T U C : Type 0} → ℕ → List (Option (Stored T U C)) → List ClientParts
live_from slot [] = []
live_from slot (c ∷ clients) = id_if_stored slot c ++ live_from (slot + 1) clients

abbrev pub global_info_of : {G : Type 0} → Object (KeptGlobal G) → GlobalInfo
global_info_of x = record { interface = x.interface; version = x.version; disabled = x.value.is_disabled }

abbrev pub name_if : {G C : Type 0} → (G → ClientParts → C → GlobalParts → Bool) → ClientParts → C → ℕ → Object (KeptGlobal G) → Option ℕ
name_if views client client_data n x = if is_visible views client client_data n x then Some n else None

module _ {T U G C : Type 0} (s : ServerState T U G C) where
  -- ---- clients and objects

  -- what is held of the client, killed or not, if it is stored
  abbrev pub client_of : ClientParts → Option (Part T U C)
  client_of id = (seen id s).part

  -- the object that the id names, if its client is stored
  abbrev pub object_of : IdParts → Option (Object (Kept U))
  object_of id = and_then (client_of id.client) (λ p. named p.store id)

  -- number, interface and version of the object that the id names
  abbrev pub object_info_of : IdParts → Option ObjectInfo
  object_info_of id = option_map (info_at id.number) (object_of id)

  -- the client of an id, if it is stored; the id need not name an object
  abbrev pub client_by : IdParts → Option ClientParts
  client_by id = option_map (λ p. id.client) (client_of id.client)

  abbrev pub client_data_of : ClientParts → Option C
  client_data_of id = option_map (λ p. p.client_data) (client_of id)

  abbrev pub object_data_of : IdParts → Option U
  object_data_of id = and_then (object_of id) (λ x. x.value.user_data)

  abbrev pub transport_of : ClientParts → Option T
  transport_of id = option_map (λ p. p.link.transport) (client_of id)

  -- how many bytes and tokens of a client were received and not read, and how many for it were written and not sent
  abbrev pub waiting_of : ClientParts → Option (List ℕ)
  waiting_of id = option_map (λ p. waiting_in p.link) (client_of id)

  -- how the client broke the protocol, if it was killed for a message
  abbrev pub violation_of : ClientParts → Option Violation
  violation_of id = and_then (client_of id) (λ p. p.violation)

  -- the id of the client's object that has the number, if it is of that interface
  abbrev pub object_for_number : ClientParts → InterfaceId → ℕ → Option IdParts
  object_for_number client i n = and_then (client_of client) (λ p. and_then (held p.store n) (id_if client i n))

  -- the ids of the live clients, by slot
  abbrev pub live_clients : List ClientParts
  live_clients = live_from 0 s.clients

  -- the ids of all objects of a client, by ascending number
  abbrev pub objects_of_client : ClientParts → Option (List IdParts)
  objects_of_client client = option_map (λ p. map (λ e. id_at client e.0 e.1) (finmap.entries p.store.objects)) (client_of client)

  -- the client's object that has the number, with its user data
  abbrev pub held_by_number : ClientParts → ℕ → Option (IdParts × Option U)
  held_by_number client n = and_then (client_of client) (λ p. option_map (held_at client n) (held p.store n))

  -- all objects of a client with their user data, by ascending number
  abbrev pub held_of_client : ClientParts → Option (List (IdParts × Option U))
  held_of_client client = option_map (λ p. map (λ e. held_at client e.0 e.1) (finmap.entries p.store.objects)) (client_of client)

  -- ---- globals

  abbrev pub global_info_by : GlobalParts → Option GlobalInfo
  global_info_by id = option_map global_info_of (global_of s.offer.globals id)

  abbrev pub handler_of : GlobalParts → Option G
  handler_of id = option_map (λ x. x.value.handler) (global_of s.offer.globals id)

  -- the name of a kept global, enabled or not, for a stored client that may see it
  abbrev pub name_for : (G → ClientParts → C → GlobalParts → Bool) → GlobalParts → ClientParts → Option ℕ
  name_for views id client =
      and_then (client_of client) (λ p. and_then (global_of s.offer.globals id) (name_if views client p.client_data id.name))
