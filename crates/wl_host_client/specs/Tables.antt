-- Which table a client's session has: when it is made for rows, when the interfaces of more rows are added, and when whole rows extend it.
use Rattle.std.specs.Prelude.{◌≡◌, ◌⊎◌, ℕ, [], List, true, false, None, Result, Ok, Err}
use Rattle.wl_wire.specs.declared.protocol.TableError.{TableError}
use Rattle.wl_wire.specs.Table.{AnswersGrowth, AnswersTo, Growth, InterfaceRow, grown, refused_growth, table_after}
use Rattle.wl_client.specs.Session.{IsConnected}
use Rattle.wl_flat.specs.declared.extending.ExtensionFault.{ExtensionFault}
use Rattle.wl_flat.specs.declared.rows.Rows.{Rows}
use Rattle.wl_flat.specs.declared.rows.TableFault.{TableFault}
use Rattle.wl_flat.specs.Rows.{RefusesRows, said_by, table_answer}
use Rattle.wl_host_client.specs.Client.{ClientCore, HostedClient}
use Rattle.wl_flat.specs.Extending.{Extends, fault_as_told}
use Rattle.wl_flat.specs.Joining.{JoinsOthers, JoinsRows}
use Rattle.wl_flat.specs.Sending.{empty_mailbox}
use Rattle.wl_flat.specs.Descriptors.{no_descriptors}
use Rattle.wl_flat.specs.Tables.{IsTableOf}

-- a client's session of which nothing was sent yet
abbrev pub IsConnectedOver : List InterfaceRow → HostedClient → Type 0
IsConnectedOver table s =
    IsConnected table empty_mailbox s.core.session
    × (s ≡ record {
      core = record { session = s.core.session; refused = false };
      arrivals = no_descriptors;
      departures = no_descriptors;
      kept = None;
      notes = [];
      refuses_nulls = false;
      telling = None;
      is_new = true;
    })

-- such a session with the table of the rows
abbrev pub IsNewClient : Rows → HostedClient → Type 0
IsNewClient rows s = (table : List InterfaceRow) × IsTableOf rows table × IsConnectedOver table s

-- the interfaces of the rows are added; or the rows are not read, and the core is not called
abbrev pub AddsToClient : Rows → ClientCore → Result (Unit {0}) TableFault → ClientCore → Type 0
AddsToClient rows before result after =
    ((interfaces : List InterfaceRow) × (answer : Result (Unit {0}) TableError) × (said_by rows ≡ Ok interfaces)
    × AnswersGrowth before.session.table interfaces answer
    × (after ≡ record {
      session = record before.session { table = grown before.session.table interfaces answer };
      refused = refused_growth answer;
    })
    × (result ≡ table_answer answer))
    ⊎ ((fault : TableFault) × RefusesRows rows fault × (result ≡ Err fault) × (after ≡ before))

-- The table grows, or is refused, and nothing else of a client's session changes.
abbrev pub ClientGrows : ClientCore → Growth → Result (Unit {0}) TableError → ClientCore → Type 0
ClientGrows before more answer after =
    AnswersTo before.session.table more answer
    × (after ≡ record {
      session = record before.session { table = table_after before.session.table more answer };
      refused = refused_growth answer;
    })

-- the table is extended by the rows; or the rows are not read, and the core is not called
abbrev pub ExtendsClient : Rows → ClientCore → Result (Unit {0}) ExtensionFault → ClientCore → Type 0
ExtendsClient rows before result after =
    ((interfaces : List InterfaceRow) × (said_by rows ≡ Ok interfaces) × Extends ClientGrows before.session.table interfaces before result after)
    ⊎ ((fault : TableFault) × RefusesRows rows fault × (result ≡ Err (fault_as_told fault)) × (after ≡ before))

-- The interface of the rows joins the table of a client's session, in which others may have its name.
abbrev pub JoinsClient : Rows → ClientCore → Result ℕ ExtensionFault → ClientCore → Type 0
JoinsClient rows before result after = JoinsRows (JoinsOthers ClientGrows before.session.table) rows before result after
