-- That what is made ready on the link to a side is what is to be sent to that side.
use Rattle.std.proofs.Common.{sym}
use Rattle.wl_relay.proofs.Ready.{client_made, server_made}
use Rattle.wl_relay.proofs.relay.Relay.make_ready.Goals as goal

pub returns-in-Client-clause-made : goal.returns-in-Client-clause-made
returns-in-Client-clause-made c =
    let e = c.make_ready.ensures in
    client_made c.args.side c.args.self.now _ c.make_ready.new.link (sym c.self.view_is) c.make_ready.result c.in-Client.is e.kept e.earlier e.none e.some e.whole

pub returns-in-Server-clause-made : goal.returns-in-Server-clause-made
returns-in-Server-clause-made c =
    let e = c.make_ready-in-Server.ensures in
    server_made c.args.side c.args.self.now _ c.make_ready-in-Server.new.link (sym c.self.view_is) c.make_ready-in-Server.result c.in-Server.is e.kept e.earlier e.none e.some
    e.whole
