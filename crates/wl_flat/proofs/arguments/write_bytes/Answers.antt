use Rattle.std.proofs.Common.{replicate, arith}
use Rattle.std.proofs.lemmas.Grind.{common_steps}
use Rattle.wl_flat.proofs.Flattening.{written_behind}
use Rattle.wl_flat.proofs.arguments.write_bytes.Goals as goal

pub returns-clause-bytes : goal.returns-clause-bytes
returns-clause-bytes c =
    let w = written_behind c.args.at c.args.from.now (replicate c.args.zeros 0) c.args.bytes.now c.requires in
    let z = c.fill.ensures.after (λ y e. cc) in
    grind (arith, common_steps)
