use Rattle.wl_flat.proofs.Flattening.{no_zero}
use Rattle.wl_flat.proofs.arguments.string_of.Goals as goal

pub returns-in-Ok-clause-ok : goal.returns-in-Ok-clause-ok
returns-in-Ok-clause-ok c = (c.in-Ok.ensures.bytes, no_zero c.args.bytes.items c.in-Ok.ensures.zero.1)
