use Rattle.std.proofs.Common.{◌∙◌, arith, refl, sym}
use Rattle.std.specs.Prelude.{slice_set}
use Rattle.std.proofs.lemmas.List.{length-set}
use Rattle.std.proofs.lemmas.Option.{slice_get_read}
use Rattle.wl_server.specs.Inside.Touched.{HasSent, IsQuiet}
use Rattle.wl_server_client.specs.NoteTimes.{IsNumbered, times_of}
use Rattle.wl_server_model.proofs.CallSteps.Feeling.{none_felt, one_more_felt}
use Rattle.wl_server_model.proofs.CallSteps.Numbering.{each_stays}
use Rattle.wl_server_model.proofs.CleanupSteps.Gathering.{map_set}
use Rattle.wl_server.proofs.Touched.Flushed.{live_felt_on}
use Rattle.wl_server.proofs.Touched.Kept.{out_set, out_taken}
use Rattle.wl_server.proofs.client.flush.flush_live.Goals as goal

pub loop-slot-init : goal.loop-slot-init
loop-slot-init g c =
    let ends = c.len-end.ensures ∙ c.args.clients.now.ok.0 in
    let next = c.next_from-slot.ensures in
    record {
      felt = live_felt_on g.T.Transport.sends _ 0 _ _ _ _ next.from (omega (arith, next.within, ends)) next.skipped c.requires (none_felt _ _);
      within = next.within;
      ends = ends;
      times = refl;
      numbered = λ all. all;
      sent = c.requires;
      quiet = λ words all. all;
    }

pub loop-slot-preserved : goal.loop-slot-preserved
loop-slot-preserved g c =
    let inv = c.loop-slot.invariant in
    let here = slice_get_read c.loop-slot.clients.items _ c.loop-slot.slot c.index_mut.result.now
    (inv.ends ∙ sym inv.felt.len) c.loop-slot-test.true c.index_mut.ensures.value in
    let next = c.next_from-slot-in-loop-slot.ensures in
    let now = slice_set c.loop-slot.clients.items c.loop-slot.slot c.flush_at-refused.new.client in
    let long = length-set c.loop-slot.clients.items c.loop-slot.slot c.flush_at-refused.new.client in
    let read = slice_get_read now _ c.loop-slot.slot c.index.result.now refl
    (omega (arith, c.loop-slot-test.true, long, inv.ends, inv.felt.len)) c.index.ensures in
    let sent = out_taken HasSent _ _ now c.loop-slot.slot _ _ c.remove_if.ensures read c.has_sent.ensures
    (out_set HasSent _ _ _ _ _ here c.flush_at-refused.ensures.sent inv.sent) in
    record {
      felt = live_felt_on g.T.Transport.sends _ _ _ _ now _ next.from (omega (arith, next.within, long, inv.ends, inv.felt.len)) next.skipped sent
          (one_more_felt _ _ _ _ _ _ _ _ inv.felt here (c.flush_at-refused.ensures.felt c.loop-slot.slot));
      within = next.within;
      ends = inv.ends;
      times = map_set times_of _ _ _ _ here c.flush_at-refused.ensures.times ∙ inv.times;
      numbered = λ all. each_stays IsNumbered _ _ _ _ here c.flush_at-refused.ensures.numbered (inv.numbered all);
      sent = sent;
      quiet = λ words all. out_set IsQuiet words c.loop-slot.clients.items c.loop-slot.slot _ _ here c.flush_at-refused.ensures.quiet
          (inv.quiet words all);
    }
