use Rattle.std.proofs.Common.{arith}
use Rattle.std.proofs.lemmas.Grind.{common_steps}
use Rattle.wl_wire.specs.Table.{anonymous_row}
use Rattle.wl_flat.proofs.RowsExtend.{place_one}
use Rattle.wl_flat.proofs.extending.place_of.Goals as goal

pub returns-then-eq : goal.returns-then-eq
returns-then-eq c =
    let one = place_one c.args.protocol.now c.args.name.now c.loop-place.place anonymous_row (omega arith) in grind (arith, common_steps)

pub loop-place-preserved : goal.loop-place-preserved
loop-place-preserved c =
    let one = place_one c.args.protocol.now c.args.name.now c.loop-place.place anonymous_row (omega arith) in grind (arith, common_steps)
