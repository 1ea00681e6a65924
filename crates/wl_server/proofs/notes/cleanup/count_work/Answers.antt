use Rattle.std.proofs.Common.{true, arith, map, refl}
use Rattle.std.proofs.lemmas.Grind.{common_steps}
use Rattle.std.proofs.lemmas.Option.{slice_get_read}
use Rattle.wl_server_model.specs.Inside.Gathering.{count_leaving}
use Rattle.wl_server_model.specs.Inside.Leaving.{ends_at, given_at}
use Rattle.wl_server_model.specs.Inside.NoteOrder.{count_places}
use Rattle.wl_server_client.specs.NoteTimes.{times_of}
use Rattle.wl_server.specs.Inside.Touched.{IsQuiet}
use Rattle.std.proofs.lemmas.List.{drop_all}
use Rattle.wl_server.proofs.Touched.Counted.{quiet_ends, quiet_given, at_least, at_most, counted, counts_collected, counts_notes, counts_places, passed}
use Rattle.wl_server.proofs.Touched.Kept.{out_taken}
use Rattle.wl_server.proofs.notes.cleanup.count_work.Goals as goal

pub loop-slot-init : goal.loop-slot-init
loop-slot-init g c =
    let next = c.next_from-slot.ensures in
    let notes = passed _ _ 0 _ next.from next.within next.skipped c.requires _ _ (counts_notes true c.args.clients.now) in
    let places = passed _ _ 0 _ next.from next.within next.skipped c.requires _ _ (counts_places true c.args.clients.now) in
    let given = passed _ _ 0 _ next.from next.within next.skipped c.requires _ _ (counts_collected given_at quiet_given c.args.clients.now) in
    let ends = passed _ _ 0 _ next.from next.within next.skipped c.requires _ _ (counts_collected ends_at quiet_ends c.args.clients.now) in
    record {
      gathered = λ below. omega (arith, notes);
      places = λ below. omega (arith, places);
      few_gathered = omega (arith, notes);
      leaving = λ below. omega (arith, given);
      few_leaving = omega (arith, given);
      ends = λ below. omega (arith, ends);
      quiet = c.requires;
      within = next.within;
      all = refl;
    }

pub loop-slot-preserved : goal.loop-slot-preserved
loop-slot-preserved g c =
    let inv = c.loop-slot.invariant in
    let next = c.next_from-slot-in-loop-slot.ensures in
    let here = slice_get_read c.args.clients.now _ c.loop-slot.slot c.index-clients-slot.result refl c.loop-slot-test.true c.index-clients-slot.is in
    let quiet = out_taken IsQuiet _ c.remove_if.new.self.words.items c.args.clients.now c.loop-slot.slot _ _ c.remove_if.ensures here
    c.is_quiet.ensures inv.quiet in
    let notes = counted _ _ _ _ next.from next.within next.skipped quiet _ _ (counts_notes true c.args.clients.now) _ _ refl here in
    let places = counted _ _ _ _ next.from next.within next.skipped quiet _ _ (counts_places true c.args.clients.now) _ _ refl here in
    let given = counted _ _ _ _ next.from next.within next.skipped quiet _ _ (counts_collected given_at quiet_given c.args.clients.now) _
    _ refl here in
    let ends = counted _ _ _ _ next.from next.within next.skipped quiet _ _ (counts_collected ends_at quiet_ends c.args.clients.now) _ _ refl here in
    record {
      gathered = at_least _ _ _ _ _ _ _ notes c.saturating_add-gathered.ensures (λ below. omega (arith, c.count_of.ensures.notes)) inv.gathered;
      places = at_least _ _ _ _ _ _ _ places c.saturating_add-gathered.ensures (λ below. omega (arith, c.count_of.ensures.places)) inv.places;
      few_gathered = at_most _ _ _ _ _ _ _ notes c.saturating_add-gathered.ensures (omega (arith, c.count_of.ensures.notes)) inv.few_gathered;
      leaving = at_least _ _ _ _ _ _ _ given c.saturating_add-leaving.ensures
          (λ below. omega (arith, c.count_given_at.ensures c.loop-slot.slot)) inv.leaving;
      few_leaving = at_most _ _ _ _ _ _ _ given c.saturating_add-leaving.ensures
          (omega (arith, c.count_given_at.ensures c.loop-slot.slot)) inv.few_leaving;
      ends = at_least _ _ _ _ _ _ _ ends c.saturating_add-ends.ensures (c.count_ends_at.ensures c.loop-slot.slot) inv.ends;
      quiet = quiet;
      within = next.within;
      all = refl;
    }

pub returns : goal.returns
returns g c = record {
  quiet = c.loop-slot.invariant.quiet;
  gathered = λ below. grind (arith, count_leaving, drop_all);
  places = λ below. grind (arith, count_places, map, times_of, drop_all);
  few_gathered = grind (arith, common_steps);
  leaving = λ below. grind (arith, common_steps, drop_all);
  few_leaving = grind (arith, common_steps);
  ends = λ below. grind (arith, common_steps, drop_all);
}
