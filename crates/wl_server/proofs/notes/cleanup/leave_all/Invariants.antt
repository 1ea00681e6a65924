use Rattle.std.proofs.Common.{◌≡◌, ◌-◌, ◌≤◌, length}
use Rattle.std.specs.Vec.{vec_capacity}
use Rattle.wl_server_model.proofs.CleanupSteps.Outgoing.{Leave}
use Rattle.wl_server.proofs.notes.cleanup.leave_all.Given as goal

abbrev pub invariant-loop-slot : goal.invariant-loop-slot
invariant-loop-slot g l = record {
  leave : Leave l.slot l.fn.clients.items l.clients.items l.fn.notes.items l.notes.items l.fn.given.items l.given.items;
  notes : vec_capacity l.notes ≡ vec_capacity l.fn.notes;
  given : vec_capacity l.given ≡ vec_capacity l.fn.given;
  within : l.slot ≤ l.end;
  ends : l.end ≡ length l.clients.items;
  len : length l.clients.items ≡ length l.fn.clients.items;
}

abbrev pub decreases-loop-slot : goal.decreases-loop-slot
decreases-loop-slot g l = l.end - l.slot
