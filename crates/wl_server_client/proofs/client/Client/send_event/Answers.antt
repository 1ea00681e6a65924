use Rattle.std.proofs.Common.{◌≡◌, ◌∙◌, true, Result, Err, map, refl, sym, arith}
use Rattle.std.specs.Prelude.{is_err, OnErr, ◌++◌, ◌≡◌, Result}
use Rattle.wl_server_client.specs.Inside.Ending.{notes_ending, registries_ending}
use Rattle.wl_server_client.specs.Events.{session_content}
use Rattle.wl_server_client.proofs.CallSteps.Numbers.{in_time_both, in_time_same, waits_in_time}
use Rattle.wl_server_client.specs.Stored.{no_times, NoteTimes}
use Rattle.wl_server_client.proofs.ObjectCalls.SendingEvents.{no_room, not_written, of_sender, sent, to_killed, was_granted, was_refused, arguments_numbered}
use Rattle.wl_server_client.proofs.client.Client.send_event.Goals as goal

on_err : {A E P : Type 0} (r : Result A E) → is_err r ≡ true → OnErr r P → P
on_err (Err e) failed p = p
on_err r failed p = grind (arith, r)

pub returns-then-self-clause-does : goal.returns-then-self-clause-does
returns-then-self-clause-does g c =
    to_killed g.T.Transport.sends c.args.message.now.sender_id.client c.args.protocol.now c.args.self.now (session_content c.args.message.now)
    (rw (← c.self.view_is) c.if-self.true)

pub returns-in-Err-clause-does : goal.returns-in-Err-clause-does
returns-in-Err-clause-does g c =
    was_refused g.T.Transport.sends c.args.message.now.sender_id.client c.args.protocol.now c.args.self.now (session_content c.args.message.now)
    c.in-Err.error (rw (← c.self.view_is) c.if-self.false) (rw (← c.self.view_is) (rw c.client.ensures at c.in-Err.ensures.decided))

pub returns-then-is_err-clause-does : goal.returns-then-is_err-clause-does
returns-then-is_err-clause-does g c =
    was_granted g.T.Transport.sends c.args.message.now.sender_id.client c.args.protocol.now c.args.self.now (session_content c.args.message.now)
    c.in-Ok.granted.0.now c.in-Ok.granted.1 _ true (record { serial = _; part = _; made = _; times = no_times })
    (rw (← c.self.view_is) c.if-self.false) (rw (← c.self.view_is) (rw c.client.ensures at c.in-Ok.ensures.decided))
    (no_room c.args.message.now.sender_id.client (session_content c.args.message.now) c.in-Ok.granted.0.now g.T.Transport.sends c.args.self.now
    (record { serial = _; part = _; made = _; times = no_times }) c.in-Ok.granted.1 (on_err c.make_room.result (sym c.is_err.ensures.value
    ∙ c.if-is_err.true) c.make_room.ensures.asked) (rw (← c.self.view_is, c.make_room.ensures.items) refl))

pub returns-then-is_out_of_memory-clause-does : goal.returns-then-is_out_of_memory-clause-does
returns-then-is_out_of_memory-clause-does g c =
    let message = arguments_numbered c.args.message.now.args.items in
    was_granted g.T.Transport.sends c.args.message.now.sender_id.client c.args.protocol.now c.args.self.now (session_content c.args.message.now)
    c.in-Ok.granted.0.now c.in-Ok.granted.1 _ true (record { serial = _; part = _; made = _; times = no_times })
    (rw (← c.self.view_is) c.if-self.false) (rw (← c.self.view_is) (rw c.client.ensures at c.in-Ok.ensures.decided))
    (not_written c.args.message.now.sender_id.client (session_content c.args.message.now) c.in-Ok.granted.0.now g.T.Transport.sends c.args.self.now
    (record { serial = _; part = _; made = _; times = no_times }) c.in-Ok.granted.1 c.write_numbered-written.new.self c.write_numbered-written.result
    (rw (← c.self.view_is) (rw message at c.write_numbered-written.ensures.wrote)) (sym c.is_out_of_memory.ensures ∙ c.if-is_out_of_memory.true)
    (rw (← c.self.view_is, c.make_room.ensures.items) refl))

pub returns-clause-does : goal.returns-clause-does
returns-clause-does g c =
    let message = arguments_numbered c.args.message.now.args.items in
    let sender = c.in-Ok.granted.0.now in
    let ends = c.in-Ok.granted.1 in
    let times : NoteTimes = record { made = map (λ m. m.0) c.self.inside.made.queue.items; waiting = map (λ w. w.0) c.end_sender.new.waiting.queue.items } in
    let registries = of_sender c.self.inside.objects.map.store c.args.message.now.sender_id sender
    (λ x. c.end_sender.new.objects.registries.items
    ≡ registries_ending ends c.self.inside.objects.registries.items c.args.message.now.sender_id.number x) c.in-Ok.ensures.sender c.end_sender.ensures.registries in
    let waiting = of_sender c.self.inside.objects.map.store c.args.message.now.sender_id sender
    (λ x. map (λ w. w.1) c.end_sender.new.waiting.queue.items
    ≡ map (λ w. w.1) c.make_room.new.waiting.queue.items ++ notes_ending ends c.args.message.now.sender_id.client c.args.message.now.sender_id.number x) c.in-Ok.ensures.sender c.end_sender.ensures.waiting in
    was_granted g.T.Transport.sends c.args.message.now.sender_id.client c.args.protocol.now c.args.self.now
    (session_content c.args.message.now) sender ends _ c.tell_end.result c.tell_end.new.self
    (rw (← c.self.view_is) c.if-self.false) (rw (← c.self.view_is) (rw c.client.ensures at c.in-Ok.ensures.decided))
    (sent c.args.message.now.sender_id.client (session_content c.args.message.now) sender g.T.Transport.sends c.args.self.now
    (record { serial = _; part = _; made = _; times = times })
    c.tell_end.new.self ends c.protocol_id.result c.write_numbered-written.new.self c.write_numbered-written.result c.tell_end.result
    (rw (← c.self.view_is) (rw message at c.write_numbered-written.ensures.wrote)) (sym c.is_out_of_memory.ensures ∙ c.if-is_out_of_memory.false)
    (rw (← c.self.view_is, waiting, c.end_sender.ensures.store, c.end_sender.ensures.serial, registries, c.make_room.ensures.items) refl)
    c.protocol_id.ensures c.tell_end.ensures.tells)

pub returns-then-is_err-clause-in_time : goal.returns-then-is_err-clause-in_time
returns-then-is_err-clause-in_time g c = rw (← c.self.view_is) (in_time_same _ _ _ _ (cc c.make_room.ensures.items) refl)

pub returns-then-is_out_of_memory-clause-in_time : goal.returns-then-is_out_of_memory-clause-in_time
returns-then-is_out_of_memory-clause-in_time g c = rw (← c.self.view_is) (in_time_same _ _ _ _ (cc c.make_room.ensures.items) refl)

pub returns-clause-in_time : goal.returns-clause-in_time
returns-clause-in_time g c = in_time_both _ _ _ _ _ _
    (rw (← c.self.view_is) (waits_in_time _ _ _ _ _ _ (rw c.make_room.ensures.items at c.end_sender.ensures.in_time) refl c.end_sender.ensures.made))
    c.tell_end.ensures.in_time
