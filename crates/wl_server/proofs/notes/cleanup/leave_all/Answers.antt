use Rattle.std.proofs.Common.{◌∙◌, length, arith, refl, sym}
use Rattle.std.specs.Prelude.{slice_set}
use Rattle.std.proofs.lemmas.List.{length-set}
use Rattle.std.proofs.lemmas.Option.{slice_get_read}
use Rattle.wl_server_model.specs.Inside.Leaving.{ends_at, given_at}
use Rattle.wl_server_model.proofs.CleanupSteps.Outgoing.{leave_ends, leave_one, leave_room}
use Rattle.wl_server.proofs.Touched.Leaving.{leave_on, none_left}
use Rattle.wl_server.proofs.notes.cleanup.leave_all.Goals as goal

pub leave_at-requires-clause-notes : goal.leave_at-requires-clause-notes
leave_at-requires-clause-notes g c =
    let here = slice_get_read c.loop-slot.clients.items _ c.loop-slot.slot c.index_mut.result.now c.loop-slot.invariant.ends c.loop-slot-test.true c.index_mut.ensures.value in
    let there = sym (c.loop-slot.invariant.leave.rest c.loop-slot.slot (omega arith)) ∙ here in
    leave_room ends_at c.loop-slot.slot c.args.clients.now.items _ _ _ _ _ _ _ c.loop-slot.invariant.leave.noted there c.args.notes.now.ok.0
    c.loop-slot.notes.ok.0 c.requires.notes c.loop-slot.invariant.notes

pub leave_at-requires-clause-given : goal.leave_at-requires-clause-given
leave_at-requires-clause-given g c =
    let here = slice_get_read c.loop-slot.clients.items _ c.loop-slot.slot c.index_mut.result.now c.loop-slot.invariant.ends c.loop-slot-test.true c.index_mut.ensures.value in
    let there = sym (c.loop-slot.invariant.leave.rest c.loop-slot.slot (omega arith)) ∙ here in
    leave_room given_at c.loop-slot.slot c.args.clients.now.items _ _ _ _ _ _ _ c.loop-slot.invariant.leave.gave there c.args.given.now.ok.0
    c.loop-slot.given.ok.0 c.requires.given c.loop-slot.invariant.given

pub loop-slot-preserved : goal.loop-slot-preserved
loop-slot-preserved g c =
    let inv = c.loop-slot.invariant in
    let here = slice_get_read c.loop-slot.clients.items _ c.loop-slot.slot c.index_mut.result.now inv.ends c.loop-slot-test.true c.index_mut.ensures.value in
    let next = c.next_from-slot-in-loop-slot.ensures in
    let now = slice_set c.loop-slot.clients.items c.loop-slot.slot c.leave_at.new.place in
    let long = length-set c.loop-slot.clients.items c.loop-slot.slot c.leave_at.new.place in
    record {
      leave = leave_on _ _ _ now _ _ _ _ _ next.from (omega (arith, next.within, long, inv.ends)) next.skipped c.requires.live
          (leave_one _ _ _ _ _ _ _ _ _ _ _ inv.leave here c.leave_at.ensures.stays c.leave_at.ensures.noted c.leave_at.ensures.given);
      notes = c.leave_at.ensures.notes_room ∙ inv.notes;
      given = c.leave_at.ensures.given_room ∙ inv.given;
      within = next.within;
      ends = inv.ends ∙ sym long;
      len = long ∙ inv.len;
    }

pub loop-slot-init : goal.loop-slot-init
loop-slot-init g c =
    let ends = c.len-end.ensures ∙ c.args.clients.now.ok.0 in
    let next = c.next_from-slot.ensures in
    record {
      leave = leave_on 0 _ _ _ _ _ _ _ _ next.from (omega (arith, next.within, ends)) next.skipped c.requires.live (none_left _ _ _);
      notes = refl;
      given = refl;
      within = next.within;
      ends = ends;
      len = refl;
    }

pub returns-clause-stay : goal.returns-clause-stay
returns-clause-stay g c = grind (arith, length, leave_ends, ends_at, given_at)
