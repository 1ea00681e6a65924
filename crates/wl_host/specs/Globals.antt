-- What calls that may tell clients of globals leave beside the core.
use Rattle.std.specs.Prelude.{true}
use Rattle.wl_host.specs.Calls.{CoreState}
use Rattle.wl_host.specs.Seats.{listed_all}
use Rattle.wl_host.specs.Server.{ServerState}

-- the core is so, and each client is to be asked for what is to be sent; clients may be killed, and there may be notes
abbrev pub told_all : ServerState → CoreState → ServerState
told_all s core = record s { core = core; seats = listed_all s.seats; may_clean_up = true; may_have_notes = true }
