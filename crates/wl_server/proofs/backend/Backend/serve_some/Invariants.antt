use Rattle.std.proofs.Common.{◌≡◌}
use Rattle.wl_server_model.specs.Dispatch.{answering}
use Rattle.wl_server_model.specs.Inside.Dispatching.{RoundsSoFar, waiting_of}
use Rattle.wl_server_model.specs.PartStep.{over}
use Rattle.wl_server.proofs.backend.Backend.serve_some.Given as goal

abbrev pub invariant-loop-fault : goal.invariant-loop-fault
invariant-loop-fault g l = record {
  so_far : RoundsSoFar (over g.T.Transport.sends g.T.Transport.receives g.G.GlobalHandler.views)
      (answering g.H.Handler.requests g.H.Handler.binds) l.id l.fn.handler l.fn.reading l.fn.self l.handler l.reading l.self;
  left : l.reading.turns_left ≡ l.fn.reading.turns_left;
}

-- no receive was used up, so that with each action fewer bytes wait
abbrev pub decreases-loop-fault : goal.decreases-loop-fault
decreases-loop-fault g l = waiting_of l.id l.self.server
