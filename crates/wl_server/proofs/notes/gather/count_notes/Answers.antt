use Rattle.std.proofs.Common.{map, arith, refl}
use Rattle.std.proofs.lemmas.Grind.{common_steps}
use Rattle.std.proofs.lemmas.Option.{slice_get_read}
use Rattle.wl_server_model.specs.Inside.Gathering.{count_leaving}
use Rattle.wl_server_model.specs.Inside.NoteOrder.{count_places}
use Rattle.wl_server.specs.Inside.Touched.{IsQuiet}
use Rattle.wl_server_client.specs.NoteTimes.{times_of}
use Rattle.wl_server.proofs.Touched.Counted.{at_least, at_most, counted, counts_notes, counts_places, passed}
use Rattle.wl_server.proofs.Touched.Kept.{out_taken}
use Rattle.wl_server.proofs.notes.gather.count_notes.Goals as goal
use Rattle.std.proofs.lemmas.List.{drop_all}

pub loop-slot-init : goal.loop-slot-init
loop-slot-init g c =
    let next = c.next_from-slot.ensures in
    let notes = passed _ _ 0 _ next.from next.within next.skipped c.requires _ _ (counts_notes c.args.waits c.args.clients.now) in
    let places = passed _ _ 0 _ next.from next.within next.skipped c.requires _ _ (counts_places c.args.waits c.args.clients.now) in
    record {
      all = λ below. omega (arith, notes);
      places = λ below. omega (arith, places);
      no_more = omega (arith, notes);
      quiet = c.requires;
      within = next.within;
      ends = refl;
    }

pub loop-slot-preserved : goal.loop-slot-preserved
loop-slot-preserved g c =
    let inv = c.loop-slot.invariant in
    let next = c.next_from-slot-in-loop-slot.ensures in
    let here = slice_get_read c.args.clients.now _ c.loop-slot.slot c.index-clients-slot.result refl c.loop-slot-test.true c.index-clients-slot.is in
    let quiet = out_taken IsQuiet _ c.remove_if.new.self.words.items c.args.clients.now c.loop-slot.slot _ _ c.remove_if.ensures here
    c.is_quiet.ensures inv.quiet in
    let notes = counted _ _ _ _ next.from next.within next.skipped quiet _ _ (counts_notes c.args.waits c.args.clients.now) _ _ refl here in
    let places = counted _ _ _ _ next.from next.within next.skipped quiet _ _ (counts_places c.args.waits c.args.clients.now) _ _ refl here in
    record {
      all = at_least _ _ _ _ _ _ _ notes c.saturating_add-count.ensures (λ below. omega (arith, c.count_of.ensures.notes)) inv.all;
      places = at_least _ _ _ _ _ _ _ places c.saturating_add-count.ensures (λ below. omega (arith, c.count_of.ensures.places)) inv.places;
      no_more = at_most _ _ _ _ _ _ _ notes c.saturating_add-count.ensures (omega (arith, c.count_of.ensures.notes)) inv.no_more;
      quiet = quiet;
      within = next.within;
      ends = refl;
    }

pub returns : goal.returns
returns g c = record {
  quiet = c.loop-slot.invariant.quiet;
  all = λ below. grind (arith, count_leaving, drop_all);
  places = λ below. grind (arith, count_places, map, times_of, drop_all);
  no_more = grind (arith, common_steps);
}
