use Rattle.std.proofs.Common.{arith, refl, true≢false}
use Rattle.std.proofs.lemmas.Grind.{common_steps}
use Rattle.std.proofs.lemmas.Option.{slice_get_read}
use Rattle.wl_server_model.proofs.CallSteps.Slots.{stored_is, stored_past}
use Rattle.wl_server_model.proofs.ObjectCalls.Inserting.{slot_of}
use Rattle.wl_server_model.proofs.CleanupSteps.Taken.{one_more_taken, taken_less}
use Rattle.wl_server.proofs.client.insert.free_slot.Goals as goal

pub loop-slot-preserved : goal.loop-slot-preserved
loop-slot-preserved g c = grind (arith, common_steps, slice_get_read, one_more_taken)

pub returns-then-is_none : goal.returns-then-is_none
returns-then-is_none g c =
    let here = slice_get_read c.args.clients.now _ c.loop-slot.slot c.index-clients-slot.result refl c.loop-slot-test.true c.index-clients-slot.is in
    slot_of c.args.clients.now c.loop-slot.slot c.try_from.result c.ok.result
    (grind (arith, stored_is, here, true≢false))
    c.loop-slot.invariant.taken c.try_from.ensures c.ok.ensures.value

pub returns : goal.returns
returns g c =
    slot_of c.args.clients.now _ c.try_from-2.result c.ok-2.result (stored_past c.args.clients.now _ (omega arith))
    (taken_less _ c.loop-slot.slot c.args.clients.now (omega (arith, c.loop-slot-test.false, c.loop-slot.invariant.ends)) c.loop-slot.invariant.taken)
    c.try_from-2.ensures c.ok-2.ensures.value
