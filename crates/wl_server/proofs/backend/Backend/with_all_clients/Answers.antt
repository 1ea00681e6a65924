use Rattle.wl_server.proofs.backend.Backend.with_all_clients.Goals as goal

pub returns : goal.returns
returns g c = rw (← c.self.view_is, ← c.deref.ensures.value) c.visit_live.ensures
