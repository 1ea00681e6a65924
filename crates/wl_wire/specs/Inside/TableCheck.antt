-- What the check of a table's interfaces finds on its way.
use Rattle.std.specs.Prelude.{◌≡◌, ℕ, ◌+◌, ◌<◌, List, ◌++◌, length, Bool, false}
use Rattle.wl_wire.specs.declared.interface.Interface.{Interface}
use Rattle.wl_wire.specs.declared.protocol.TableError.{TableError}
use Rattle.wl_wire.specs.Table.{InterfaceRow, MessageRow, interface_rows, is_at_fault, is_extension_at_fault, is_repeated, rank, table_of}

-- the name of the interface at this place of a list is taken, if the list follows the interfaces that are kept
abbrev pub is_repeated_behind : List Interface → List Interface → ℕ → Bool
is_repeated_behind kept interfaces at = is_repeated (table_of kept ++ interface_rows interfaces) (length (table_of kept) + at)

-- the interface has none of the faults of the first ranks
abbrev pub LacksFirst : ℕ → Bool → ℕ → InterfaceRow → Type 0
LacksFirst n taken count row = (fault : TableError) → rank fault < n → is_at_fault taken count row fault ≡ false

-- the messages, for the interface at that place, have none of the faults of the first ranks
abbrev pub LackFirst : ℕ → List InterfaceRow → ℕ → List MessageRow → Type 0
LackFirst n table at new = (fault : TableError) → rank fault < n → is_extension_at_fault table at new fault ≡ false
