-- Which table a session has: when it is made for rows, when the interfaces of more rows are added, and when whole rows extend it.
use Rattle.std.specs.Prelude.{◌≡◌, ◌⊎◌, ℕ, [], List, true, false, Result, Ok, Err}
use Rattle.wl_wire.specs.declared.protocol.TableError.{TableError}
use Rattle.wl_wire.specs.Table.{InterfaceRow, NewRows}
use Rattle.wl_server_model.specs.Backend.{IsGrowth}
use Rattle.wl_server_client.specs.Globals.{new_offer}
use Rattle.wl_server_model.specs.Server.{new_server}
use Rattle.wl_flat.specs.declared.extending.ExtensionFault.{ExtensionFault}
use Rattle.wl_flat.specs.declared.rows.Rows.{Rows}
use Rattle.wl_flat.specs.declared.rows.TableFault.{TableFault}
use Rattle.wl_host.specs.Calls.{CoreState, world}
use Rattle.wl_flat.specs.Rows.{RefusesRows, said_by, table_answer}
use Rattle.wl_flat.specs.Extending.{Extends, fault_as_told}
use Rattle.wl_flat.specs.Joining.{Joins, JoinsRows}
use Rattle.wl_host.specs.Seats.{no_seats}
use Rattle.wl_host.specs.Server.{ServerState}
use Rattle.wl_flat.specs.Tables.{IsTableOf}

-- ---- a new session

-- a server's session without clients and globals: a new client's buffers may grow to 1 MiB
abbrev pub new_state : List InterfaceRow → ServerState
new_state table = record {
  core = record { server = record (new_server table) { offer = record (new_offer table) { default_limit = 1048576 } }; refused = false };
  seats = no_seats;
  notes = [];
  may_clean_up = false;
  may_have_notes = false;
  refuses_nulls = false;
  keeps_notes = true;
  told = [];
  tells = false;
}

-- the session is a new one with the table of the rows
abbrev pub IsNewServer : Rows → ServerState → Type 0
IsNewServer rows s = (table : List InterfaceRow) × IsTableOf rows table × (s ≡ new_state table)

-- ---- more interfaces

-- the interfaces of the rows are added; or the rows are not read, and the core is not called
abbrev pub AddsInterfaces : Rows → CoreState → Result (Unit {0}) TableFault → CoreState → Type 0
AddsInterfaces rows before result after =
    ((interfaces : List InterfaceRow) × (answer : Result (Unit {0}) TableError) × (said_by rows ≡ Ok interfaces)
    × IsGrowth world before (NewRows interfaces) answer after × (result ≡ table_answer answer))
    ⊎ ((fault : TableFault) × RefusesRows rows fault × (result ≡ Err fault) × (after ≡ before))

-- ---- whole rows

-- The table is extended by the rows; or the rows are not read, and the core is not called.
abbrev pub ExtendsInterfaces : Rows → CoreState → Result (Unit {0}) ExtensionFault → CoreState → Type 0
ExtendsInterfaces rows before result after =
    ((interfaces : List InterfaceRow) × (said_by rows ≡ Ok interfaces)
    × Extends (IsGrowth world) before.server.offer.table interfaces before result after)
    ⊎ ((fault : TableFault) × RefusesRows rows fault × (result ≡ Err (fault_as_told fault)) × (after ≡ before))

-- ---- one whole interface

-- The interface of the rows joins the table of a server's session, in which a name has one row.
abbrev pub JoinsServer : Rows → CoreState → Result ℕ ExtensionFault → CoreState → Type 0
JoinsServer rows before result after = JoinsRows (Joins (IsGrowth world) before.server.offer.table) rows before result after
