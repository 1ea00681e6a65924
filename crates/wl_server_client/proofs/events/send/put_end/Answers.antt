use Rattle.wl_server_client.proofs.GlobalCalls.Putting.{puts_none}
use Rattle.wl_server_client.proofs.events.send.put_end.Goals as goal

pub returns-then-not-ends : goal.returns-then-not-ends
returns-then-not-ends g c = rw (c.in_ok-written.was, c.if-not-ends.true) (puts_none g.T.Transport.sends c.args.socket.now)
