use Rattle.std.proofs.Common.{◌∙◌, sym, arith}
use Rattle.wl_flat.proofs.RowsExtend.{differ_end}
use Rattle.wl_flat.proofs.extending.first_difference.Goals as goal

pub returns : goal.returns
returns c =
    differ_end c.args.there.now c.args.said.now c.loop-opcode.opcode (omega (arith, c.min-opcode-end.ensures, c.loop-opcode-test.false)) ∙ sym c.loop-opcode.invariant
