-- The ids of a client's objects.
use Rattle.std.specs.Prelude.{ℕ}
use Rattle.wl_wire.specs.declared.interface.InterfaceId.{InterfaceId}

-- A number, the serial that tells the object from others of that number, and the object's interface. The number 0 is
-- that of no object.
pub record IdParts : Type 0 where
  pub number : ℕ
  pub serial : ℕ
  pub interface : InterfaceId
