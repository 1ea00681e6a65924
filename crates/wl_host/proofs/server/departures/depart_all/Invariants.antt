use Rattle.std.proofs.Common.{◌≡◌}
use Rattle.wl_host.specs.Seats.{gone_all}
use Rattle.wl_host.proofs.server.departures.depart_all.Given as goal

abbrev pub invariant-loop-id : goal.invariant-loop-id
invariant-loop-id l = l.seats ≡ gone_all l.fn.seats l.yielded
