use Rattle.std.proofs.Common.{◌≡◌, ◌<◌, ◌-◌, ℕ, suc, length}
use Rattle.std.specs.String.{string_bytes}
use Rattle.wl_wire.specs.Table.{interface_row}
use Rattle.wl_flat.specs.Joining.{IsOther, fit, primed}
use Rattle.wl_flat.proofs.RowsJoin.{longest}
use Rattle.wl_flat.proofs.joining.name_apart.Given as goal

-- so many apostrophes are behind the name, and with fewer a row of it differs
abbrev pub invariant-loop-said : goal.invariant-loop-said
invariant-loop-said l = (n : ℕ) × (interface_row l.said ≡ primed n (interface_row l.fn.said)) × ((m : ℕ) → m < n → IsOther (fit l.protocol (primed m (interface_row l.fn.said))))

-- a name that is longer than all of the table is in no row
abbrev pub decreases-loop-said : goal.decreases-loop-said
decreases-loop-said l = suc (longest l.protocol) - length (string_bytes l.said.name)
