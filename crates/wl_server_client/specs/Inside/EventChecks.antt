-- What the functions that look at an event say to their callers.
use Rattle.std.specs.Prelude.{List, ◌∷◌, Bool, not, Option, Some, Result, Ok, Err}
use Rattle.wl_wire.specs.declared.interface.InterfaceId.{InterfaceId}
use Rattle.wl_wire.specs.MessageRows.{matches}
use Rattle.wl_wire.specs.Table.{MessageRow}
use Rattle.wl_link.specs.Refusals.{when}
use Rattle.wl_link.specs.Store.{Store}
use Rattle.wl_server_client.specs.declared.error.EventError.{EventError}
use Rattle.wl_server_client.specs.declared.error.EventError.TheVariants as refused
use Rattle.wl_server_client.specs.declared.objects.Kept.{Kept}
use Rattle.wl_server_client.specs.Events.{SessionMessage, argument_faults}
use Rattle.wl_server_client.specs.Ids.{ClientParts}

-- why an id is refused: its look-up failed, or its object has the wrong interface
abbrev pub fault_of : (InterfaceId → Bool) → Result InterfaceId EventError → Option EventError
fault_of is_asked (Ok i) = when (not (is_asked i)) refused.WrongInterface
fault_of is_asked (Err e) = Some e

-- why an event of that row is refused for its arguments, in the order in which that is looked at
abbrev pub refusals : {U : Type 0} → ClientParts → Store (Kept U) → MessageRow → SessionMessage → List (Option EventError)
refusals client store row m =
    when (not (matches row.signature m.args)) refused.BadSignature
    ∷ argument_faults client store row row.signature row.arg_interfaces m.args
