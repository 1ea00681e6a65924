use Rattle.std.proofs.Common.{◌∙◌, ◌≤◌, ◌++◌, length, append-nil, arith, ap, sym}
use Rattle.wl_server_model.specs.NoteOrder.{times_at}
use Rattle.wl_server_model.specs.Inside.Leaving.{collected, given_at}
use Rattle.wl_server_model.proofs.CallSteps.Numbering.{all_take_leave, none_waits, numbered_staying, takes_both, takes_none}
use Rattle.wl_server_model.proofs.CleanupSteps.Idle.{none_flushed, none_leaves, none_noted}
use Rattle.wl_server_model.proofs.CleanupSteps.Rooms.{flushed_counts, flushed_order, gathered_ends, gathered_given}
use Rattle.wl_server.proofs.Touched.Leaving.{live_gathered}
use Rattle.wl_server.proofs.notes.cleanup.clean_up.Goals as goal
use Rattle.std.proofs.lemmas.List.{nil_from_length}

pub returns-then-capacity-eq0-clause-cleaned : goal.returns-then-capacity-eq0-clause-cleaned
returns-then-capacity-eq0-clause-cleaned g c =
    let none : length (collected given_at 0 c.args.clients.now.items) ≤ 0 = omega (arith, c.requires.given, c.capacity.ensures, c.if-capacity-eq0.true) in
    let left : length (collected given_at 0 c.gather.new.clients.items) ≤ 0 = omega (arith, none, ap length (gathered_given _ _ _ _ c.gather.ensures.gathered)) in
    record {
      flushed = c.args.clients.now.items;
      left = c.gather.new.clients.items;
      told = c.gather.new.notes.items;
      flushes = none_flushed g.T.Transport.sends c.args.clients.now.items none;
      gathers = c.gather.ensures.gathered;
      all = c.gather.ensures.ended;
      in_order = (c.args.memory.now.order.items, c.requires.order, rw c.deref.ensures.value at c.gather.ensures.along);
      stay = none_leaves 0 c.gather.new.clients.items left;
      noted = sym (append-nil c.gather.new.notes.items) ∙ ap (λ l. c.gather.new.notes.items ++ l) (sym (none_noted c.gather.new.clients.items left));
      gave = c.requires.none ∙ sym (nil_from_length (collected given_at 0 c.gather.new.clients.items) (omega (arith, left)));
    }

pub gather-requires-2-clause-order : goal.gather-requires-2-clause-order
gather-requires-2-clause-order g c =
    rw c.deref-2.ensures.value (flushed_order g.T.Transport.sends _ _ _ _ c.flush_killed-refused.ensures.felt c.flush_killed-refused.ensures.times
    c.requires.order)

pub gather-requires-2-clause-room : goal.gather-requires-2-clause-room
gather-requires-2-clause-room g c = omega (arith, (flushed_counts g.T.Transport.sends _ _ _ c.flush_killed-refused.ensures.felt).0, c.requires.notes)

pub leave_all-requires-clause-live : goal.leave_all-requires-clause-live
leave_all-requires-clause-live g c =
    live_gathered g.T.Transport.sends _ _ _ _ _ _ _ c.flush_killed-refused.ensures.felt c.gather-2.ensures.gathered c.requires.live

pub leave_all-requires-clause-notes : goal.leave_all-requires-clause-notes
leave_all-requires-clause-notes g c =
    let counts = flushed_counts g.T.Transport.sends _ _ _ c.flush_killed-refused.ensures.felt in
    let gathered = ap length (gathered_ends _ _ _ _ c.gather-2.ensures.gathered) in
    omega (arith, counts.0, counts.1, gathered, c.gather-2.ensures.gathered.count, c.gather-2.ensures.capacity, c.args.notes.now.ok.0, c.gather-2.new.notes.ok.0, c.requires.notes)

pub leave_all-requires-clause-given : goal.leave_all-requires-clause-given
leave_all-requires-clause-given g c =
    let same = (flushed_counts g.T.Transport.sends _ _ _ c.flush_killed-refused.ensures.felt).2 in
    omega (arith, same, ap length (gathered_given _ _ _ _ c.gather-2.ensures.gathered), ap length c.requires.none, c.args.memory.now.given.ok.0, c.requires.given)

pub returns-clause-first : goal.returns-clause-first
returns-clause-first g c = rw c.leave_all.ensures.stay
    (λ k. takes_both (times_at k _) (times_at k _) (times_at k _) ((rw c.flush_killed-refused.ensures.times at c.gather-2.ensures.first) k)
    (all_take_leave c.gather-2.new.clients.items k))

pub returns-then-capacity-eq0-clause-none_waits : goal.returns-then-capacity-eq0-clause-none_waits
returns-then-capacity-eq0-clause-none_waits g c = none_waits _ _ c.gather.ensures.no_numbers (λ k. takes_none (times_at k _))

pub returns-clause-none_waits : goal.returns-clause-none_waits
returns-clause-none_waits g c = rw c.leave_all.ensures.stay (none_waits _ _ c.gather-2.ensures.no_numbers
    (all_take_leave c.gather-2.new.clients.items))

pub returns-clause-numbered : goal.returns-clause-numbered
returns-clause-numbered g c all = rw c.leave_all.ensures.stay
    (numbered_staying c.gather-2.new.clients.items (c.gather-2.ensures.numbered (c.flush_killed-refused.ensures.numbered all)))
