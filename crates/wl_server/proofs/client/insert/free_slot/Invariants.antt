use Rattle.std.proofs.Common.{◌≡◌, length}
use Rattle.wl_server_model.specs.Inside.Inserting.{AreTaken}
use Rattle.wl_server.proofs.client.insert.free_slot.Given as goal

abbrev pub invariant-loop-slot : goal.invariant-loop-slot
invariant-loop-slot g l = record {
  taken : AreTaken l.slot l.clients;
  ends : l.slot-end ≡ length l.clients;
}
