use Rattle.std.proofs.Common.{◌∙◌, sym, arith}
use Rattle.std.proofs.lemmas.Grind.{common_steps}
use Rattle.wl_wire.proofs.Pieces.{size-numbered}
use Rattle.wl_wire.proofs.write.numbered_size.Goals as goal

pub returns-in_err-measure : goal.returns-in_err-measure
returns-in_err-measure g c =
    let size-is = size-numbered (g.N.Numbering.object_number c.args.numbers.now) (g.N.Numbering.new_number c.args.numbers.now) c.args.message.now _ c.as_slice.ensures in
    rw c.from_residual.ensures (omega (arith, size-is, c.in_err-measure.ensures))

pub returns : goal.returns
returns g c = c.in_ok-measure.ensures.0 ∙ sym (size-numbered _ _ c.args.message.now _ c.as_slice.ensures)

pub as_slice-requires : goal.as_slice-requires
as_slice-requires g c = grind (arith, common_steps)
