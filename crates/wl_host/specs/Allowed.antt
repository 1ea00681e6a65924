-- What is handed out while nulls that the table forbids are refused.
use Rattle.std.specs.Prelude.{◌≡◌, ℕ, List}
use Rattle.wl_wire.specs.MessageRows.{request_row}
use Rattle.wl_server_client.specs.Deeds.{Handed}
use Rattle.wl_server_client.specs.Deeds as deeds
use Rattle.wl_host.specs.Actions.{Lent, lent_action}
use Rattle.wl_host.specs.Calls.{CoreState}
use Rattle.wl_flat.specs.Flat.{flat_resource}
use Rattle.wl_flat.specs.Nulls.{IsForbiddenAt, signature_of}
use Rattle.wl_flat.specs.declared.flat.FlatArgument.{FlatArgument}
use Rattle.wl_host.specs.declared.server.ledger.Ledger.{Ledger}

-- no argument of the action is null where the table allows no null
abbrev pub IsAllowedAction : CoreState → Handed → Type 0
IsAllowedAction core (deeds.Request sender opcode args is_destructor created) =
    (n : ℕ) → ¬ (IsForbiddenAt flat_resource (signature_of (request_row core.server.offer.table sender.interface opcode)) args n)
IsAllowedAction core (deeds.Bind global object) = Unit {0}
IsAllowedAction core (deeds.Registry object) = Unit {0}

-- what stands in the lent memory is such an action
abbrev pub LendsAllowedAction : CoreState → List FlatArgument → List ℕ → Lent → Type 0
LendsAllowedAction core arguments bytes lent =
    (l : Ledger) × (h : Handed) × (lent ≡ lent_action core l h arguments bytes) × IsAllowedAction core h
