-- The ids of clients, of globals and of objects.
use Rattle.std.specs.Prelude.{ℕ, Bool, ◌==◌, ◌&&◌}
use Rattle.wl_wire.specs.declared.interface.InterfaceId.{InterfaceId}

-- A client's slot, and the serial that tells it from others of that slot.
pub record ClientParts : Type 0 where
  pub slot : ℕ
  pub serial : ℕ

-- A global's name, and the serial that tells it from others of that name.
pub record GlobalParts : Type 0 where
  pub name : ℕ
  pub serial : ℕ

-- An object's number, the serial that tells it from others of that number, its client, and its interface. The number 0 is
-- that of no object.
pub record IdParts : Type 0 where
  pub number : ℕ
  pub serial : ℕ
  pub client : ClientParts
  pub interface : InterfaceId

-- one client: the same slot and the same serial
abbrev pub same_client : ClientParts → ClientParts → Bool
same_client a b = (a.slot == b.slot) && (a.serial == b.serial)
