use Rattle.std.proofs.Common.{arith}
use Rattle.std.proofs.lemmas.Grind.{common_steps}
use Rattle.wl_flat.proofs.arguments.read_argument.Goals as goal

pub returns-in-0-clause-ok : goal.returns-in-0-clause-ok
returns-in-0-clause-ok g c = grind (arith, common_steps)

pub returns-in-1-clause-ok : goal.returns-in-1-clause-ok
returns-in-1-clause-ok g c = grind (arith, common_steps)

pub returns-in-2-clause-ok : goal.returns-in-2-clause-ok
returns-in-2-clause-ok g c = grind (arith, common_steps)

pub returns-in-4-clause-ok : goal.returns-in-4-clause-ok
returns-in-4-clause-ok g c = grind (arith, common_steps)

pub returns-in-5-clause-ok : goal.returns-in-5-clause-ok
returns-in-5-clause-ok g c = grind (arith, common_steps)

pub returns-in_ok-put_in-in-7-clause-ok : goal.returns-in_ok-put_in-in-7-clause-ok
returns-in_ok-put_in-in-7-clause-ok g c = grind (arith, common_steps)

pub returns-in-8-clause-ok : goal.returns-in-8-clause-ok
returns-in-8-clause-ok g c = grind (arith, common_steps)
