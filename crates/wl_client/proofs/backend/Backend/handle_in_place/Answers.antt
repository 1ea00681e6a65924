use Rattle.wl_client.proofs.backend.Backend.handle_in_place.Goals as goal

pub returns-then-take_numbers-clause-handled : goal.returns-then-take_numbers-clause-handled
returns-then-take_numbers-clause-handled g c = rw c.if-delete_in_place.ensures at c.if-take_numbers.ensures.handles
