use Rattle.std.proofs.Common.{arith}
use Rattle.std.proofs.lemmas.Grind.{common_steps}
use Rattle.std.proofs.lemmas.List.{drop-map}
use Rattle.wl_flat.proofs.RowsExtend.{drop_least}
use Rattle.wl_flat.proofs.extending.rest.Goals as goal

pub returns : goal.returns
returns c = let h = c.drop-drain.ensures.items in let k = c.drain.ensures.rest in let j = c.drain.ensures.kept in grind (arith, common_steps, drop-map, drop_least)
