use Rattle.std.proofs.Common.{arith}
use Rattle.wl_server_model.proofs.ObjectCalls.Inserting.{put_within}
use Rattle.wl_server.proofs.client.insert.put_within.Goals as goal

pub returns-clause-put : goal.returns-clause-put
returns-clause-put g c =
    let len = c.args.clients.now.ok.0 in
    put_within c.args.clients.now.items c.args.slot c.args.client (omega arith)
