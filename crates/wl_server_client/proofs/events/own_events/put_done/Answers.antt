use Rattle.std.proofs.Common.{◌≡◌, [], ◌∷◌, Ok, Err, true, false, nat_le, arith, subst}
use Rattle.wl_wire.specs.Message.{WireMessage}
use Rattle.wl_link.specs.Link.{Wrote}
use Rattle.wl_server_client.specs.Telling.{delete_message, deletions, done_message}
use Rattle.wl_server_client.proofs.GlobalCalls.Putting.{puts_failed, puts_more, puts_one}
use Rattle.wl_server_client.proofs.events.own_events.put_done.Goals as goal

pub returns : goal.returns
returns g c serial =
    let client : nat_le 0xFF000000 c.args.number ≡ false = grind (arith, c.if-number-ge-SERVER_ID_LIMIT.false) in
    let done = done_message (record { number = c.args.number; serial = serial }) in
    let first = subst (λ (m : WireMessage). Wrote g.T.Transport.sends c.args.socket.now m
    (Ok tt) c.write_message.new.self) c.overwrite_message.ensures c.in_default.ensures.wrote in
    let second = subst (λ (m : WireMessage). Wrote g.T.Transport.sends c.write_message.new.self m c.write_message-2.result c.write_message-2.new.self) c.overwrite_message-2.ensures c.write_message-2.ensures.wrote in
    rw client (puts_more g.T.Transport.sends c.args.socket.now c.write_message.new.self c.write_message-2.new.self (done ∷ []) (delete_message c.args.number ∷ []) c.write_message-2.result
    (puts_one g.T.Transport.sends c.args.socket.now c.write_message.new.self done (Ok tt) first)
    (puts_one g.T.Transport.sends c.write_message.new.self c.write_message-2.new.self (delete_message c.args.number) c.write_message-2.result second))

pub returns-in-Err : goal.returns-in-Err
returns-in-Err g c serial =
    let done = done_message (record { number = c.args.number; serial = serial }) in
    let first = subst (λ (m : WireMessage). Wrote g.T.Transport.sends c.args.socket.now m
    (Err c.in-Err.fault) c.write_message.new.self) c.overwrite_message.ensures c.in-Err.ensures.wrote in
    puts_failed g.T.Transport.sends c.args.socket.now c.write_message.new.self (done ∷ []) (deletions c.args.number) c.in-Err.fault
    (puts_one g.T.Transport.sends c.args.socket.now c.write_message.new.self done (Err c.in-Err.fault) first)

pub returns-then-number-ge-SERVER_ID_LIMIT : goal.returns-then-number-ge-SERVER_ID_LIMIT
returns-then-number-ge-SERVER_ID_LIMIT g c serial =
    let server : nat_le 0xFF000000 c.args.number ≡ true = grind (arith, c.if-number-ge-SERVER_ID_LIMIT.true) in
    let first = subst (λ (m : WireMessage). Wrote g.T.Transport.sends c.args.socket.now m
    (Ok tt) c.write_message.new.self) c.overwrite_message.ensures c.in_default.ensures.wrote in
    rw server (puts_one g.T.Transport.sends c.args.socket.now c.write_message.new.self
    (done_message (record { number = c.args.number; serial = serial })) (Ok tt) first)
