-- What the calls about clients do to a server's session.
use Rattle.std.specs.Prelude.{◌≡◌, ℕ, true, Result, Ok, Err, MatchOption}
use Rattle.wl_server_client.specs.Ids.{ClientParts}
use Rattle.wl_server.specs.Lending.{state_over}
use Rattle.wl_server_model.specs.Lookups.{transport_of}
use Rattle.wl_host.specs.Calls.{CoreState}
use Rattle.wl_flat.specs.Flat.{client_of}
use Rattle.wl_host.specs.Seats.{listed, seated}
use Rattle.wl_host.specs.Server.{ServerState}
use Rattle.wl_flat.specs.Told.{first_telling}
use Rattle.wl_flat.specs.declared.flat.FlatClientId.{FlatClientId}
use Rattle.wl_flat.specs.declared.status.Status.{Status}
use Rattle.wl_flat.specs.declared.status.Status.TheVariants as status

-- A new client has a ledger, and a note says that it was inserted; its messages are told, if that was set. Without one, nothing is changed
-- beside the core.
abbrev pub inserted : ServerState → CoreState → Result FlatClientId Status → ℕ → ServerState
inserted s core (Ok id) user_data = record s { core = core; seats = seated s.seats (client_of id) user_data (first_telling s.tells); may_have_notes = true }
inserted s core (Err e) user_data = record s { core = core }

-- clients may be killed, and there may be notes
abbrev pub marked : ServerState → CoreState → ServerState
marked s core = record s { core = core; may_clean_up = true; may_have_notes = true }

-- and the client at the slot is to be asked for what is to be sent
abbrev pub told_at : ServerState → CoreState → ℕ → ServerState
told_at s core slot = record (marked s core) { seats = listed s.seats slot }

-- As many bytes wait in the client's mailbox at most, before no more are put there. The client is to be asked again: there may be
-- room now for what waits in the core.
abbrev pub SetsRoom : ServerState → ClientParts → ℕ → Status → ServerState → Type 0
SetsRoom before id room s after =
    MatchOption (transport_of before.core.server id) ((s ≡ status.InvalidId) × (after ≡ before))
    (λ m. (s ≡ status.Ok) × (after ≡ record before { core = state_over before.core id (record m { room = room }); seats = listed before.seats id.slot }))
