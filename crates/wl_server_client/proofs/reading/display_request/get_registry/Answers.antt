use Rattle.wl_server_client.proofs.reading.display_request.get_registry.Goals as goal

pub returns-then-around-clause-responds : goal.returns-then-around-clause-responds
returns-then-around-clause-responds g c c' to args = rw (c.if-around.true) (c.hand_out_registry.ensures.responds c' to args)

pub returns-clause-responds : goal.returns-clause-responds
returns-clause-responds g c c' to args = rw (c.if-around.false) (c.register.ensures.responds c' to c.args.found.now args)
