use Rattle.std.proofs.Common.{◌≡◌, ◌∙◌, ap, arith, length, refl}
use Rattle.std.proofs.lemmas.Option.{slice_get-get_or}
use Rattle.wl_server_client.specs.Globals.{shown_as}
use Rattle.wl_server_client.specs.Inside.News.{Announced}
use Rattle.wl_server_client.specs.NoteTimes.{IsNumbered}
use Rattle.wl_server_model.proofs.CallSteps.Numbering.{next_in_time, each_stays, turn_still}
use Rattle.wl_server_model.proofs.CallSteps.Feeling.{none_felt, one_more_felt}
use Rattle.wl_server.proofs.globals.create_global.tell_new.Goals as goal

pub loop-slot-init : goal.loop-slot-init
loop-slot-init g c = grind (arith, none_felt, shown_as, turn_still)

pub loop-slot-preserved : goal.loop-slot-preserved
loop-slot-preserved g c =
    let here = slice_get-get_or c.loop-slot.clients c.loop-slot.slot c.index-clients-slot.result
    (omega (arith, c.loop-slot-test.true, c.loop-slot.invariant.felt.len)) in
    record {
      felt = one_more_felt _ _ _ _ _ _ _ _ c.loop-slot.invariant.felt here (rw (← c.loop-slot.invariant.table) c.tell_new_at-refused.ensures.felt);
      table = ap (λ (a : Announced). a.table) c.tell_new_at-refused.ensures.same ∙ c.loop-slot.invariant.table;
      global = ap (λ (a : Announced). a.global) c.tell_new_at-refused.ensures.same ∙ c.loop-slot.invariant.global;
      ends = refl;
      in_time = next_in_time _ _ _ _ _ _ _ _ c.loop-slot.invariant.in_time here c.tell_new_at-refused.ensures.in_time;
      numbered = λ all. each_stays IsNumbered _ _ _ _ here c.tell_new_at-refused.ensures.numbered (c.loop-slot.invariant.numbered all);
    }

pub returns-clause-felt : goal.returns-clause-felt
returns-clause-felt g c =
    let end : c.loop-slot.slot ≡ length c.args.clients.now = omega (arith, c.loop-slot-test.false, c.loop-slot.auto.slot-end) in
    rw (← end) c.loop-slot.invariant.felt
