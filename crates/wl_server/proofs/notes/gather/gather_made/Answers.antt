use Rattle.std.proofs.Common.{false, [], map, refl, sym, append-nil, arith}
use Rattle.std.specs.Vec.{vec_capacity, vec_len}
use Rattle.std.proofs.lemmas.Grind.{common_steps}
use Rattle.wl_server_model.specs.Inside.Gathering.{count_leaving}
use Rattle.wl_server_client.specs.NoteTimes.{times_of}
use Rattle.wl_server_model.specs.NoteOrder.{times_at}
use Rattle.wl_server_model.specs.Inside.NoteOrder.{count_places}
use Rattle.wl_server_model.proofs.CallSteps.Numbering.{takes_none}
use Rattle.wl_server_model.proofs.CleanupSteps.Asking.{none_leaving, none_of, on_err, room_of}
use Rattle.wl_server_model.proofs.CleanupSteps.Ordering.{none_order}
use Rattle.wl_server.proofs.notes.gather.gather_made.Goals as goal

pub order_of-requires-clause-quiet : goal.order_of-requires-clause-quiet
order_of-requires-clause-quiet g c = rw c.deref-2.ensures.value (rw c.deref.ensures.value at c.count_notes-count.ensures.quiet)

pub gather-requires-clause-room : goal.gather-requires-clause-room
gather-requires-clause-room g c = grind (arith, count_leaving, room_of, vec_len, vec_capacity)

pub returns-then-count-eq0-clause-quiet : goal.returns-then-count-eq0-clause-quiet
returns-then-count-eq0-clause-quiet g c = rw c.deref.ensures.value at c.count_notes-count.ensures.quiet

pub returns-then-count-eq0-clause-ended : goal.returns-then-count-eq0-clause-ended
returns-then-count-eq0-clause-ended g c = grind (arith, count_leaving, none_leaving, none_of)

pub returns-then-count-eq0-clause-in_order : goal.returns-then-count-eq0-clause-in_order
returns-then-count-eq0-clause-in_order g c =
    let few = none_of c.count_notes-count.result (count_places false (map times_of c.args.clients.now.items)) c.if-count-eq0.true
    (rw c.deref.ensures.value at c.count_notes-count.ensures.places) in
    ([], none_order false c.args.clients.now.items [] refl (returns-then-count-eq0-clause-ended g c) few, ([], sym (append-nil _), refl))

pub returns-then-count-eq0-clause-first : goal.returns-then-count-eq0-clause-first
returns-then-count-eq0-clause-first g c = λ k. takes_none (times_at k _)

pub returns-in_err-order : goal.returns-in_err-order
returns-in_err-order g c = record {
  quiet = rw c.deref.ensures.value at c.count_notes-count.ensures.quiet;
  gathered = grind (arith, common_steps);
  ended = grind (arith, common_steps);
  numbered = λ all. all;
  in_order = grind (arith, common_steps);
  first = λ k. takes_none (times_at k _);
  unchanged = on_err c.from_residual.result (refl, refl);
  some = grind (arith, common_steps, on_err);
}

pub returns-in_err-reserve : goal.returns-in_err-reserve
returns-in_err-reserve g c = record {
  quiet = rw c.deref.ensures.value at c.count_notes-count.ensures.quiet;
  gathered = grind (arith, common_steps);
  ended = grind (arith, common_steps);
  numbered = λ all. all;
  in_order = grind (arith, common_steps);
  first = λ k. takes_none (times_at k _);
  unchanged = on_err c.from_residual-in_err-reserve.result (refl, c.reserve.ensures.items);
  some = grind (arith, common_steps, on_err);
}

pub returns-clause-quiet : goal.returns-clause-quiet
returns-clause-quiet g c = rw c.deref.ensures.value at c.count_notes-count.ensures.quiet
