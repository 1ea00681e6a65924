use Rattle.std.proofs.Common.{arith}
use Rattle.wl_server_model.proofs.ObjectCalls.Inserting.{put_behind}
use Rattle.wl_server.proofs.client.insert.put_at.Goals as goal

pub returns-else-slot-len-clause-put : goal.returns-else-slot-len-clause-put
returns-else-slot-len-clause-put g c =
    let len = c.args.clients.now.ok.0 in
    rw c.push_reserved.ensures.items (put_behind c.args.clients.now.items c.args.slot c.args.client (omega arith))
