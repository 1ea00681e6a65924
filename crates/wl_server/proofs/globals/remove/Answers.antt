use Rattle.std.proofs.Common.{◌∙◌, ap, not, arith}
use Rattle.wl_server_model.proofs.GlobalCalls.AtName.{nothing_freed, one_freed}
use Rattle.wl_server.proofs.globals.remove.Goals as goal

pub returns-then-is_none : goal.returns-then-is_none
returns-then-is_none g c = λ last keeps. nothing_freed _ _ last keeps ((grind (arith, c.global_in.ensures, c.is_none.ensures)) ∙ ap not c.if-is_none.true)

pub returns : goal.returns
returns g c = grind (arith, one_freed, not)
