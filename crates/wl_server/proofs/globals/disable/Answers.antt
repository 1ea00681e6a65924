use Rattle.std.proofs.Common.{◌∙◌, ap, not, arith}
use Rattle.wl_server_model.proofs.GlobalCalls.AtName.{nothing_disabled, one_disabled}
use Rattle.wl_server.proofs.globals.disable.Goals as goal

pub returns-then-is_none : goal.returns-then-is_none
returns-then-is_none g c = λ last keeps. nothing_disabled _ _ last keeps ((grind (arith, c.global_in.ensures, c.is_none.ensures)) ∙ ap not c.if-is_none.true)

pub returns : goal.returns
returns g c = grind (arith, one_disabled, not)
