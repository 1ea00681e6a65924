use Rattle.std.proofs.Common.{◌≡◌, false, true, nat_le, arith, subst}
use Rattle.wl_wire.specs.Message.{WireMessage}
use Rattle.wl_link.specs.Link.{Wrote}
use Rattle.wl_server_client.specs.Telling.{delete_message}
use Rattle.wl_server_client.proofs.GlobalCalls.Putting.{puts_none, puts_one}
use Rattle.wl_server_client.proofs.events.own_events.put_delete_id.Goals as goal

pub returns-then-number-ge-SERVER_ID_LIMIT : goal.returns-then-number-ge-SERVER_ID_LIMIT
returns-then-number-ge-SERVER_ID_LIMIT g c =
    let server : nat_le 0xFF000000 c.args.number ≡ true = grind (arith, c.if-number-ge-SERVER_ID_LIMIT.true) in
    rw server (puts_none g.T.Transport.sends c.args.socket.now)

pub returns : goal.returns
returns g c =
    let client : nat_le 0xFF000000 c.args.number ≡ false = grind (arith, c.if-number-ge-SERVER_ID_LIMIT.false) in
    let wrote = subst (λ (m : WireMessage). Wrote g.T.Transport.sends c.args.socket.now m c.write_message.result c.write_message.new.self) c.message_of_number-message.ensures c.write_message.ensures.wrote in
    rw client (puts_one g.T.Transport.sends c.args.socket.now c.write_message.new.self (delete_message c.args.number) c.write_message.result wrote)
