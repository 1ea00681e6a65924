use Rattle.std.proofs.Common.{refl, rules}
use Rattle.wl_host.proofs.Inserted.{conserves_inserted, inserts_viewer}
use Rattle.wl_host.proofs.server.Server.insert_client.Goals as goal

pub returns-in-Ok-clause-call : goal.returns-in-Ok-clause-call
returns-in-Ok-clause-call c = rw (← c.self.view_is) (inserts_viewer _ _ _ _ _ _ _ _ _ (search rules) (search rules) (search rules) c.in-Ok.ensures.core)

pub returns-in-Ok-clause-descriptors : goal.returns-in-Ok-clause-descriptors
returns-in-Ok-clause-descriptors c = rw (← c.self.view_is) (conserves_inserted _ _ _ _ _ c.in-Ok.ensures.ok)

pub returns-in-Err-clause-call : goal.returns-in-Err-clause-call
returns-in-Err-clause-call c = rw (← c.self.view_is) (inserts_viewer _ _ _ _ _ _ _ _ _ (search rules) (search rules) refl c.in-Err.ensures.core)
