use Rattle.wl_server_model.specs.Dispatch.{answering}
use Rattle.wl_server_model.specs.Inside.Dispatching.{RoundsSoFar}
use Rattle.wl_server_model.specs.PartStep.{over}
use Rattle.wl_server_client.specs.Reading.{new_reading}
use Rattle.wl_server.proofs.backend.Backend.serve.Given as goal

abbrev pub invariant-loop-fault : goal.invariant-loop-fault
invariant-loop-fault g l =
    RoundsSoFar (over g.T.Transport.sends g.T.Transport.receives g.G.GlobalHandler.views)
    (answering g.H.Handler.requests g.H.Handler.binds) l.id l.fn.handler new_reading l.fn.self l.handler l.reading l.self

abbrev pub decreases-loop-fault : goal.decreases-loop-fault
decreases-loop-fault g l = l.reading.turns_left
