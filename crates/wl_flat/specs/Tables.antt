-- Which table is made of rows.
use Rattle.std.specs.Prelude.{◌≡◌, ◌⊎◌, ◌++◌, List, Ok}
use Rattle.wl_wire.specs.declared.protocol.TableError.{TableError}
use Rattle.wl_wire.specs.Table.{InterfaceRow, IsAcceptedTable, IsFirstFault, fixed_rows}
use Rattle.wl_flat.specs.declared.rows.Rows.{Rows}
use Rattle.wl_flat.specs.declared.rows.TableFault.{TableFault}
use Rattle.wl_flat.specs.Rows.{RefusesRows, fault_of, said_by}

-- the table of the interfaces of the rows, behind the fixed ones
abbrev pub IsTableOf : Rows → List InterfaceRow → Type 0
IsTableOf rows table = (interfaces : List InterfaceRow) × (said_by rows ≡ Ok interfaces) × (table ≡ fixed_rows ++ interfaces) × IsAcceptedTable table

-- The fault that is told: a row names what is not there, or there was no memory; or it is the first fault of the table.
abbrev pub IsFaultOf : Rows → TableFault → Type 0
IsFaultOf rows fault =
    RefusesRows rows fault
    ⊎ ((interfaces : List InterfaceRow) × (error : TableError) × (said_by rows ≡ Ok interfaces) × IsFirstFault (fixed_rows ++ interfaces) error
    × (fault ≡ fault_of error))
