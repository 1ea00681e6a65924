-- That no request so far has the name.
use Rattle.std.proofs.Common.{◌≢◌, ℕ, ◌<◌}
use Rattle.std.specs.Prelude.{Some, slice_get}
use Rattle.wl_wire.specs.Table.{interface_row}
use Rattle.wl_guard.specs.Policy.{name_in}
use Rattle.wl_guard.proofs.policy.request_named.Given as goal

abbrev pub invariant-loop-opcode : goal.invariant-loop-opcode
invariant-loop-opcode l = (n : ℕ) → n < l.opcode → name_in (slice_get (interface_row l.interface).requests n) ≢ Some l.request
