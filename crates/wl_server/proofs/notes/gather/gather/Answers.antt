use Rattle.std.proofs.Common.{◌∙◌, [], arith, sym, append-nil, refl, ap, length, map}
use Rattle.std.proofs.lemmas.Option.{slice_get_read}
use Rattle.wl_server_model.proofs.CallSteps.Numbering.{each_stays, take_set, takes_both, takes_none, times_stored}
use Rattle.wl_server_model.proofs.CleanupSteps.Gathering.{gathers_at, count_at}
use Rattle.wl_server_model.proofs.CleanupSteps.Ordering.{along_more, none_numbered, place_left, place_some, place_within, places_among, places_moved}
use Rattle.wl_server.proofs.notes.gather.gather.Goals as goal
use Rattle.std.proofs.lemmas.List.{drop_all}
use Rattle.wl_server_client.specs.Inside.NoteTimes.{AreNumbered}
use Rattle.wl_server_client.specs.NoteTimes.{IsNumbered, places_of, times_of, to_gather}
use Rattle.wl_server_model.specs.NoteOrder.{all_places, times_at}
use Rattle.wl_server_client.specs.Stored.{NoteTimes, note_of}

pub index_mut-requires : goal.index_mut-requires
index_mut-requires g c =
    let within = place_within c.args.waits _ _ _ _ _ c.loop-place-test.true c.slot-slot.ensures c.loop-place.invariant.left in
    omega (arith, within, c.loop-place.clients.ok.0)

pub move_note-requires-clause-some : goal.move_note-requires-clause-some
move_note-requires-clause-some g c =
    let within = place_within c.args.waits _ _ _ _ _ c.loop-place-test.true c.slot-slot.ensures c.loop-place.invariant.left in
    let here = slice_get_read c.loop-place.clients.items _ _ c.index_mut.result.now c.loop-place.clients.ok.0
    (omega (arith, within, c.loop-place.clients.ok.0)) c.index_mut.ensures.value in
    place_some c.args.waits _ _ _ _ _ _ c.loop-place-test.true c.slot-slot.ensures here c.loop-place.invariant.left

pub move_note-requires-clause-room : goal.move_note-requires-clause-room
move_note-requires-clause-room g c =
    let within = place_within c.args.waits _ _ _ _ _ c.loop-place-test.true c.slot-slot.ensures c.loop-place.invariant.left in
    let here = slice_get_read c.loop-place.clients.items _ _ c.index_mut.result.now c.loop-place.clients.ok.0
    (omega (arith, within, c.loop-place.clients.ok.0)) c.index_mut.ensures.value in
    let some = place_some c.args.waits _ _ _ _ _ _ c.loop-place-test.true c.slot-slot.ensures here c.loop-place.invariant.left in
    grind (arith, some, count_at, c.args.waits, c.loop-place.invariant.gathered, c.args.notes.now.ok.0, c.loop-place.notes.ok.0, c.requires.room, c.loop-place.invariant.capacity)

pub loop-place-preserved : goal.loop-place-preserved
loop-place-preserved g c =
    let within = place_within c.args.waits _ _ _ _ _ c.loop-place-test.true c.slot-slot.ensures c.loop-place.invariant.left in
    let here = slice_get_read c.loop-place.clients.items _ _ c.index_mut.result.now c.loop-place.clients.ok.0
    (omega (arith, within, c.loop-place.clients.ok.0)) c.index_mut.ensures.value in
    record {
      gathered =
          let moved = c.move_note.ensures.moved in
          let more = gathers_at c.args.waits c.loop-place.clients.items c.loop-place.notes.items c.move_note.new.notes.items c.slot-slot.result _ c.move_note.new.client here moved in
          grind (arith, c.loop-place.invariant.gathered, more);
      left = place_left _ _ _ _ _ _ _ _ _ _ c.loop-place-test.true c.slot-slot.ensures here c.move_note.ensures.moved c.loop-place.invariant.left;
      along = along_more _ _ _ _ _ _ _ c.loop-place-test.true c.slot-slot.ensures c.loop-place.invariant.along
          (grind (arith, to_gather, note_of, c.args.waits, c.loop-place.notes.items, c.move_note.new.notes.items, c.slot-slot.result, c.move_note.ensures.moved));
      first = λ k. takes_both (times_at k _) (times_at k _) (times_at k _) (c.loop-place.invariant.first k)
          (take_set _ _ _ _ here c.move_note.ensures.first k);
      numbered = each_stays (AreNumbered c.args.waits) c.loop-place.clients.items _ _ _ here
          (λ was. c.move_note.ensures.numbered) c.loop-place.invariant.numbered;
      all_numbered = λ all. each_stays IsNumbered _ _ _ _ here c.move_note.ensures.all_numbered (c.loop-place.invariant.all_numbered all);
      capacity = c.move_note.ensures.capacity ∙ c.loop-place.invariant.capacity;
    }

pub loop-place-init : goal.loop-place-init
loop-place-init g c = record {
  gathered = record { rest = refl; told = λ id. refl; count = refl };
  left = c.requires.order.each;
  along = ([], sym (append-nil _), refl);
  first = λ k. takes_none (times_at k _);
  numbered = λ k. ap (λ (t : NoteTimes). length (places_of c.args.waits 0 t)) (sym (times_stored _ k))
      ∙ (sym (places_among c.args.waits 0 k k (map times_of _) (omega arith))
      ∙ (sym (places_moved k (all_places c.args.waits 0 (map times_of _)) _ c.requires.order.numbers) ∙ c.requires.order.each k));
  all_numbered = λ all. all;
  capacity = refl;
}

pub returns-clause-no_numbers : goal.returns-clause-no_numbers
returns-clause-no_numbers g c = none_numbered _ _ _
    (drop_all c.loop-place.place-index c.args.order.now
    (omega (arith, c.loop-place-test.false))) c.loop-place.invariant.left c.loop-place.invariant.numbered
