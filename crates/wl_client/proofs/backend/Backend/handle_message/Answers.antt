use Rattle.wl_client.proofs.backend.Backend.handle_message.Goals as goal

pub returns-in-Not-clause-handles : goal.returns-in-Not-clause-handles
returns-in-Not-clause-handles g c = rw c.in-Not.ensures.handled at c.handle_at.ensures.handles
