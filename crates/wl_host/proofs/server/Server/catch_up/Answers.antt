use Rattle.std.proofs.Common.{sym, ◌∙◌}
use Rattle.wl_host.proofs.Catching.{catches_untold}
use Rattle.wl_host.proofs.server.Server.catch_up.Goals as goal

pub returns-then-not-is_told : goal.returns-then-not-is_told
returns-then-not-is_told c = catches_untold c.args.self.now c.args.id.now (sym c.is_told.ensures ∙ c.if-not-is_told.true)
