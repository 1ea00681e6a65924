use Rattle.std.proofs.Common.{◌∙◌, arith, refl, ap, ◌++◌, map}
use Rattle.std.proofs.lemmas.Option.{slice_get_read}
use Rattle.wl_server_model.specs.NoteOrder.{all_places, places_at}
use Rattle.wl_server_client.specs.NoteTimes.{times_of}
use Rattle.wl_server_model.proofs.CleanupSteps.Ordering.{placed_all, placed_more, placed_so_far, placed_whole, places_moved}
use Rattle.wl_server.proofs.Touched.Counted.{pass_numbers, pass_placed}
use Rattle.wl_server.proofs.notes.gather.order_of.Goals as goal

pub loop-slot-init : goal.loop-slot-init
loop-slot-init g c =
    let next = c.next_from-slot.ensures in
    record {
      placed = pass_placed _ _ 0 _ next.from next.within next.skipped c.requires.quiet c.args.waits _
          (record { below = λ k below. absurd (omega (arith, below)); past = λ k past. ap (places_at k) c.in_ok-order.ensures.items });
      numbers = pass_numbers _ _ 0 _ next.from next.within next.skipped c.requires.quiet c.args.waits _
          (ap (λ l. l ++ all_places c.args.waits 0 (map times_of c.args.clients.now)) c.in_ok-order.ensures.items);
      within = next.within;
      ends = refl;
    }

pub loop-slot-preserved : goal.loop-slot-preserved
loop-slot-preserved g c =
    let next = c.next_from-slot-in-loop-slot.ensures in
    let here = slice_get_read c.args.clients.now _ c.loop-slot.slot c.index-clients-slot.result refl c.loop-slot-test.true c.index-clients-slot.is in
    record {
      placed = pass_placed _ _ _ _ next.from next.within next.skipped c.requires.quiet c.args.waits _
          (placed_more _ _ _ _ _ _ here c.loop-slot.invariant.placed c.in_ok-put_places_at.ensures.counted);
      numbers = pass_numbers _ _ _ _ next.from next.within next.skipped c.requires.quiet c.args.waits _
          (placed_so_far _ _ _ _ _ _ here c.loop-slot.invariant.numbers c.in_ok-put_places_at.ensures.placed);
      within = next.within;
      ends = refl;
    }

pub returns : goal.returns
returns g c = record {
  rise = c.put_in_order.ensures.rise;
  each = λ k. places_moved k _ _ c.put_in_order.ensures.moved ∙ placed_all _ _ c.loop-slot.slot _ (omega (arith, c.loop-slot-test.false))
      c.loop-slot.invariant.placed k;
  numbers = placed_whole _ _ c.loop-slot.slot _ _ (omega (arith, c.loop-slot-test.false)) c.loop-slot.invariant.numbers c.put_in_order.ensures.moved;
}
