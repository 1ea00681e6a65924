use Rattle.std.proofs.Common.{sym}
use Rattle.wl_flat.proofs.RowsJoin.{interfaces_unlike}
use Rattle.wl_flat.proofs.joining.same_interfaces.Goals as goal

pub returns-then-there-said : goal.returns-then-there-said
returns-then-there-said c = sym (interfaces_unlike c.args.there.now c.args.said.now c.if-there-said.true)
