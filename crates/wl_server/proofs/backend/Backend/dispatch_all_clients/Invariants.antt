use Rattle.std.proofs.Common.{false, take}
use Rattle.wl_server_model.specs.Dispatch.{answering}
use Rattle.wl_server_model.specs.Inside.Dispatching.{ClientsSoFar}
use Rattle.wl_server_model.specs.PartStep.{over}
use Rattle.wl_server.proofs.backend.Backend.dispatch_all_clients.Given as goal

abbrev pub invariant-loop-client : goal.invariant-loop-client
invariant-loop-client g l =
    ClientsSoFar (over g.T.Transport.sends g.T.Transport.receives g.G.GlobalHandler.views) (answering g.H.Handler.requests g.H.Handler.binds)
    (take l.client-index l.clients) l.fn.handler
    (record l.fn.self { refused = false }) l.total l.handler l.self
