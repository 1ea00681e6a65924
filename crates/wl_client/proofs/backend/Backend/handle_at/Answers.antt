use Rattle.wl_client.proofs.backend.Backend.handle_at.Goals as goal

pub returns-in-Ok-clause-handles : goal.returns-in-Ok-clause-handles
returns-in-Ok-clause-handles g c = rw (← c.self.view_is, ← c.self-inside.view_is) at c.in-Ok.ensures.taken
