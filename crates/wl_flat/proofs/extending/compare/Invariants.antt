use Rattle.std.proofs.Common.{◌≡◌, ◌<◌, ℕ, None}
use Rattle.wl_wire.specs.Table.{interface_rows}
use Rattle.wl_flat.specs.Extending.{fault_at}
use Rattle.wl_flat.proofs.extending.compare.Given as goal

-- no row before this one is at fault
abbrev pub invariant-loop-at : goal.invariant-loop-at
invariant-loop-at l = (earlier : ℕ) → earlier < l.at → fault_at l.protocol (interface_rows l.rows) earlier ≡ None
