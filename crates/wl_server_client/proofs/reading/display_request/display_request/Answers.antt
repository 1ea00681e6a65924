use Rattle.std.proofs.Common.{sym, ◌∙◌, arith}
use Rattle.wl_server_client.specs.Inside.Responses.{core_with}
use Rattle.wl_server_client.specs.Inside.ReadingLoop.{around_of}
use Rattle.wl_server_client.proofs.Readings.Requesting.{one_new, display_is}
use Rattle.wl_server_client.proofs.reading.display_request.display_request.Goals as goal
use Rattle.std.proofs.lemmas.Bool.{ne_eqb}

pub returns-in_default-clause-responds : goal.returns-in_default-clause-responds
returns-in_default-clause-responds g c c' to args = grind (arith, display_is, around_of, core_with)

pub sync-requires : goal.sync-requires
sync-requires g c = c.requires.can_make (one_new _ _ (sym c.new_id_in.ensures ∙ c.in-Some.is))

pub get_registry-requires-clause-can_make : goal.get_registry-requires-clause-can_make
get_registry-requires-clause-can_make g c = c.requires.can_make (one_new _ _ (sym c.new_id_in.ensures ∙ c.in-Some.is))

pub get_registry-requires-clause-can_register : goal.get_registry-requires-clause-can_register
get_registry-requires-clause-can_register g c = c.requires.can_register (one_new _ _ (sym c.new_id_in.ensures ∙ c.in-Some.is))

pub returns-then-message-eq-SYNC-clause-responds : goal.returns-then-message-eq-SYNC-clause-responds
returns-then-message-eq-SYNC-clause-responds g c c' to args =
    display_is (around_of g.G.GlobalHandler.views c.args.around.now)
    (core_with c' c.args.client_data.now c.args.objects.now) to c.args.message.now.opcode c.args.message.now.args.items
    ∙ rw (sym c.new_id_in.ensures ∙ c.in-Some.is, c.if-message-eq-SYNC.true) (c.sync.ensures.responds c' to c.args.found.now args)

pub returns-clause-responds : goal.returns-clause-responds
returns-clause-responds g c c' to args =
    display_is (around_of g.G.GlobalHandler.views c.args.around.now)
    (core_with c' c.args.client_data.now c.args.objects.now) to c.args.message.now.opcode c.args.message.now.args.items
    ∙ rw (sym c.new_id_in.ensures ∙ c.in-Some.is, ne_eqb c.args.message.now.opcode 0 c.if-message-eq-SYNC.false)
    (c.get_registry.ensures.responds c' to args)
