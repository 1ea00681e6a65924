use Rattle.std.proofs.Common.{◌≡◌}
use Rattle.wl_host.specs.Seats.{added_below}
use Rattle.wl_host.proofs.server.seats.Seats.list_all.Given as goal

abbrev pub invariant-loop-slot : goal.invariant-loop-slot
invariant-loop-slot l = record {
  listed : l.self-inside.writable.slots ≡ added_below l.slot l.initial.self-inside.writable.slots;
  room : l.self-inside.writable.room ≡ l.initial.self-inside.writable.room;
  beside : l.self-inside ≡ record l.initial.self-inside { writable = l.self-inside.writable };
}
