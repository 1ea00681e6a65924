use Rattle.std.proofs.Common.{◌≡◌, drop, is_some}
use Rattle.wl_wire.specs.Inside.Cursor.{arguments_at}
use Rattle.wl_wire.proofs.parse.can_read.Given as goal

abbrev pub invariant-loop-kind : goal.invariant-loop-kind
invariant-loop-kind l = is_some (arguments_at (drop l.kind-index l.signature) l.rest l.left) ≡ is_some (arguments_at l.signature l.payload l.fds)
