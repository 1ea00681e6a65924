use Rattle.std.proofs.Common.{subst}
use Rattle.wl_wire.specs.Message.{WireMessage}
use Rattle.wl_link.specs.Link.{Wrote}
use Rattle.wl_server_client.specs.Telling.{error_message}
use Rattle.wl_server_client.proofs.GlobalCalls.Putting.{puts_one}
use Rattle.wl_server_client.proofs.events.own_events.put_error.Goals as goal

pub returns : goal.returns
returns g c =
    let wrote = subst (λ (m : WireMessage). Wrote g.T.Transport.sends c.args.socket.now m c.write_message.result c.write_message.new.self)
    c.message_of_error-message.ensures c.write_message.ensures.wrote in
    record { wrote = wrote; puts = puts_one g.T.Transport.sends _ _ (error_message c.args.number c.args.code c.args.text) _ wrote }
