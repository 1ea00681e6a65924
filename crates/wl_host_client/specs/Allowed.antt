-- Which events are handed out while nulls that the table forbids are refused.
use Rattle.std.specs.Prelude.{◌≡◌, ℕ}
use Rattle.wl_wire.specs.MessageRows.{event_row}
use Rattle.wl_client.specs.Requests.{SessionMessage}
use Rattle.wl_host_client.specs.Client.{ClientCore, HostedClient, LentForEvent, with_event}
use Rattle.wl_flat.specs.Flat.{flat_proxy}
use Rattle.wl_flat.specs.Nulls.{IsForbiddenAt, signature_of}

-- no argument of the event is null where the table allows no null
abbrev pub IsAllowedEvent : ClientCore → SessionMessage → Type 0
IsAllowedEvent core event =
    (n : ℕ) → ¬ (IsForbiddenAt flat_proxy (signature_of (event_row core.session.table event.sender.interface event.opcode)) event.args n)

-- the lent memory has such an event, as the session hands it out once it has this core
abbrev pub LendsAllowedEvent : HostedClient → ClientCore → LentForEvent → LentForEvent → Type 0
LendsAllowedEvent before core lent lent' =
    (event : SessionMessage) × (lent' ≡ with_event (record before { core = core }) event lent) × IsAllowedEvent core event
