-- The globals that a server offers, by their names, and what a client sees of them.
use Rattle.std.specs.Prelude.{◌≡◌, ℕ, ◌+◌, ◌<◌, ◌⊎◌, List, map, Bool, true, false, not, ◌&&◌, nat_le, Option, None, Some, Result, Ok, Err, slice_get, MatchOption, MatchBool}
use Rattle.std.specs.List.{filter}
use Rattle.std.specs.FinMap as finmap
use Rattle.wl_wire.specs.declared.interface.InterfaceId.{InterfaceId}
use Rattle.wl_wire.specs.Table.{InterfaceRow}
use Rattle.wl_link.specs.declared.object.Object.{Object}
use Rattle.wl_link.specs.Identity.{names}
use Rattle.wl_link.specs.Store.{Range, Store, empty_store, stored, removed, rewritten, first_unused, IsLeastAbsent, IsFull}
use Rattle.wl_link.specs.Unused.{IsLeastUnused, IsUsedUp}
use Rattle.wl_server_client.specs.declared.error.GlobalError.{GlobalError}
use Rattle.wl_server_client.specs.declared.error.GlobalError.TheVariants as refused
use Rattle.wl_server_client.specs.declared.globals.KeptGlobal.{KeptGlobal}
use Rattle.wl_server_client.specs.Ids.{ClientParts, GlobalParts}
use Rattle.wl_server_client.specs.Part.{last_possible_serial}

-- the globals by name, each with its interface and version; the last serial given out; and whether names are kept: then no new
-- global gets a name that was in use
pub record Globals (G : Type 0) : Type 0 where
  pub store : Store (KeptGlobal G)
  pub last_serial : ℕ
  pub keeps_names : Bool

-- the names that a global may have
abbrev pub name_range : Range
name_range = record { first = 1; end = 0x100000000 }

-- what the server offers to all clients: its table, its globals, the limit of a new client's buffers, the greatest number at which a
-- request may make an object, if there is a limit, and whether a registry that is asked for is handed out; if it is not, the server
-- itself tells it of the globals
pub record Offer (G : Type 0) : Type 0 where
  pub table : List InterfaceRow
  pub globals : Globals G
  pub default_limit : ℕ
  pub object_limit : Option ℕ
  pub hands_registries : Bool

-- what a client sees of a global
pub record Shown : Type 0 where
  pub name : ℕ
  pub interface : InterfaceId
  pub version : ℕ

module _ {G : Type 0} where
  abbrev pub no_globals : Globals G
  no_globals = record { store = empty_store; last_serial = 0; keeps_names = false }

  abbrev pub new_offer : List InterfaceRow → Offer G
  new_offer table = record { table = table; globals = no_globals; default_limit = 4096; object_limit = None; hands_registries = false }

  abbrev pub with_globals : Offer G → Globals G → Offer G
  with_globals offer globals = record offer { globals = globals }

  -- names are kept from now on, or not
  abbrev pub keeping : Offer G → Bool → Offer G
  keeping offer keeps = with_globals offer (record offer.globals { keeps_names = keeps })

  -- registries are handed out from now on, or not
  abbrev pub handing_registries : Offer G → Bool → Offer G
  handing_registries offer hands = record offer { hands_registries = hands }

  abbrev pub with_table : Offer G → List InterfaceRow → Offer G
  with_table offer table = record offer { table = table }

  abbrev pub global_serial : KeptGlobal G → ℕ
  global_serial k = k.serial

  -- the id of the global that has a name
  abbrev pub global_at : ℕ → Object (KeptGlobal G) → GlobalParts
  global_at n x = record { name = n; serial = x.value.serial }

  -- the global that the id names
  abbrev pub global_of : Globals G → GlobalParts → Option (Object (KeptGlobal G))
  global_of globals id = names global_serial (record { number = id.name; serial = id.serial }) globals.store

  -- it is kept, and not disabled
  abbrev pub is_enabled : Option (Object (KeptGlobal G)) → Bool
  is_enabled None = false
  is_enabled (Some x) = not x.value.is_disabled

  -- ---- what becomes of them

  abbrev pub as_disabled : Object (KeptGlobal G) → Object (KeptGlobal G)
  as_disabled x = record {
    interface = x.interface;
    version = x.version;
    value = record { serial = x.value.serial; handler = x.value.handler; is_disabled = true };
  }

  abbrev pub disabled_at : Globals G → ℕ → Option (Object (KeptGlobal G)) → Globals G
  disabled_at globals n None = globals
  disabled_at globals n (Some x) = record globals { store = rewritten globals.store n (as_disabled x) }

  -- the globals after the one that the id names was disabled: it is no longer announced
  abbrev pub disabled : Globals G → GlobalParts → Globals G
  disabled globals id = disabled_at globals id.name (global_of globals id)

  abbrev pub freed_at : Globals G → ℕ → Option (Object (KeptGlobal G)) → Globals G
  freed_at globals n None = globals
  freed_at globals n (Some _) = record globals { store = removed globals.store n }

  -- the globals without the one that the id names; its name is free
  abbrev pub freed : Globals G → GlobalParts → Globals G
  freed globals id = freed_at globals id.name (global_of globals id)

  abbrev pub new_global : InterfaceId → ℕ → ℕ → G → Object (KeptGlobal G)
  new_global i version serial handler = record {
    interface = i;
    version = version;
    value = record { serial = serial; handler = handler; is_disabled = false };
  }

  -- the globals with the new one, if one was created
  abbrev pub with_created : Globals G → InterfaceId → ℕ → G → Result GlobalParts GlobalError → Globals G
  with_created globals i version handler (Err _) = globals
  with_created globals i version handler (Ok g) =
      record globals { store = stored globals.store g.name (new_global i version g.serial handler); last_serial = g.serial }

  -- ---- which global is created

  -- the name of the next global: the least that no other has; if names are kept, the least that was never in use
  abbrev pub IsNextName : Globals G → ℕ → Type 0
  IsNextName globals n = MatchBool globals.keeps_names (IsLeastUnused name_range globals.store n) (IsLeastAbsent name_range globals.store n)

  -- each name has a global; if names are kept, each was in use
  abbrev pub HasNoName : Globals G → Type 0
  HasNoName globals = MatchBool globals.keeps_names (IsUsedUp name_range globals.store) (IsFull name_range globals.store)

  -- no name or no serial is left
  abbrev pub LacksName : Globals G → Type 0
  LacksName globals = HasNoName globals ⊎ (globals.last_serial ≡ last_possible_serial)

  -- the id of the next global: the next name, and the next serial
  abbrev pub IsNextGlobal : Globals G → GlobalParts → Type 0
  IsNextGlobal globals id =
      IsNextName globals id.name × (globals.last_serial < last_possible_serial) × (id.serial ≡ globals.last_serial + 1)

  -- A new global gets the next id, or there is no memory for it, if its name was never in use. If no name or no serial is
  -- left, the answer is `Full`.
  abbrev pub CreatesNext : Globals G → Result GlobalParts GlobalError → Type 0
  CreatesNext globals (Ok id) = IsNextGlobal globals id
  CreatesNext globals (Err refused.Full) = LacksName globals
  CreatesNext globals (Err refused.OutOfMemory) =
      (id : GlobalParts) × IsNextGlobal globals id × (id.name ≡ first_unused globals.store id.name)
  CreatesNext globals (Err other) = ⊥

  -- what the creation of a global answers; its interface has to be in the table, and its version not above that of the table
  abbrev pub CreatesGlobal : List InterfaceRow → Globals G → InterfaceId → ℕ → Result GlobalParts GlobalError → Type 0
  CreatesGlobal table globals i version answer =
      MatchOption (slice_get table i.0) (answer ≡ Err refused.UnknownInterface)
      (λ row. MatchBool (nat_le version row.version) (CreatesNext globals answer) (answer ≡ Err refused.VersionTooHigh))

-- ---- what a client sees

module _ {G C : Type 0} (views : G → ClientParts → C → GlobalParts → Bool) (client : ClientParts) (client_data : C) where
  -- the client may see the global that has a name
  abbrev pub is_visible : ℕ → Object (KeptGlobal G) → Bool
  is_visible n x = views x.value.handler client client_data (global_at n x)

  -- and it is enabled
  abbrev pub is_shown : ℕ × Object (KeptGlobal G) → Bool
  is_shown e = not e.1.value.is_disabled && is_visible e.0 e.1

abbrev pub shown_as : {G : Type 0} → ℕ × Object (KeptGlobal G) → Shown
shown_as e = record { name = e.0; interface = e.1.interface; version = e.1.version }

-- the enabled globals that a client may see, by ascending name
abbrev pub shown : {G C : Type 0} → (G → ClientParts → C → GlobalParts → Bool) → Globals G → ClientParts → C → List Shown
shown views globals client client_data = map shown_as (filter (is_shown views client client_data) (finmap.entries globals.store.objects))
