use Rattle.std.proofs.Common.{◌≡◌, arith, length, refl}
use Rattle.std.proofs.lemmas.Option.{slice_get-get_or}
use Rattle.wl_server_client.specs.NoteTimes.{IsNumbered}
use Rattle.wl_server_model.proofs.CallSteps.Numbering.{next_in_time, each_stays, turn_still}
use Rattle.wl_server_model.proofs.CallSteps.Feeling.{none_felt, one_more_felt}
use Rattle.wl_server.proofs.globals.remove_global.tell_loss.Goals as goal

pub loop-slot-init : goal.loop-slot-init
loop-slot-init g c = record { felt = none_felt _ _; ends = refl; in_time = grind (arith, turn_still); numbered = λ all. all }

pub loop-slot-preserved : goal.loop-slot-preserved
loop-slot-preserved g c =
    let here = slice_get-get_or c.loop-slot.clients c.loop-slot.slot c.index-clients-slot.result
    (omega (arith, c.loop-slot-test.true, c.loop-slot.invariant.felt.len)) in
    record {
      felt = one_more_felt _ _ _ _ _ _ _ _ c.loop-slot.invariant.felt here (c.tell_loss_at-refused.ensures.felt c.loop-slot.slot);
      ends = refl;
      in_time = next_in_time _ _ _ _ _ _ _ _ c.loop-slot.invariant.in_time here c.tell_loss_at-refused.ensures.in_time;
      numbered = λ all. each_stays IsNumbered _ _ _ _ here c.tell_loss_at-refused.ensures.numbered (c.loop-slot.invariant.numbered all);
    }

pub returns-clause-felt : goal.returns-clause-felt
returns-clause-felt g c =
    let end : c.loop-slot.slot ≡ length c.args.clients.now = omega (arith, c.loop-slot-test.false, c.loop-slot.auto.slot-end) in
    rw (← end) c.loop-slot.invariant.felt
