use Rattle.std.proofs.Common.{refl}
use Rattle.wl_host.proofs.Asking.{flushes_client}
use Rattle.wl_host.proofs.server.Server.flush_client.Goals as goal

pub returns-in-Ok-clause-call : goal.returns-in-Ok-clause-call
returns-in-Ok-clause-call c =
    flushes_client _ _ _ _ _ _ c.ask.result c.said.result c.self.view_is c.id-id.ensures.id c.in-Ok.ensures c.ask.ensures c.said.ensures refl
