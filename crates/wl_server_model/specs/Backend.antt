-- What contracts see of a backend: the server, and whether memory was refused in its last call.
use Rattle.std.specs.Prelude.{Bool, false, Result}
use Rattle.wl_wire.specs.declared.protocol.TableError.{TableError}
use Rattle.wl_wire.specs.Table.{Growth}
use Rattle.wl_link.specs.Exchange.{IsWithinOffer}
use Rattle.wl_server_model.specs.declared.step.Reply.{Reply}
use Rattle.wl_server_model.specs.declared.step.Step.{Step}
use Rattle.wl_server_model.specs.Accounts.{StaysAccountedFor}
use Rattle.wl_server_client.specs.Ids.{ClientParts}
use Rattle.wl_server_model.specs.PartStep.{Changed, Grown, World}
use Rattle.wl_server_model.specs.Server.{ServerState}
use Rattle.wl_server_model.specs.Steps.{Makes, StepOf}

-- what contracts see of a backend
pub record BackendState (T U G C : Type 0) : Type 0 where
  pub server : ServerState T U G C
  pub refused : Bool

-- What a public call does: it is a step with this reply. And if a run of calls of a new server led here, the laws in
-- `IsAccountedFor` hold of that run with this call after it, if the transport takes no more than it is offered.
pub record Calls {T U G C : Type 0} (w : World T G C) (before : BackendState T U G C) (call : Step T U G C) (answer : Reply T U) (after : BackendState T U G C) : Type 0 where
  pub step : StepOf w before.server call answer after.refused after.server
  pub accounted : IsWithinOffer w.sends → StaysAccountedFor w before.server step.0 after.server

-- The same for a change of a client's transport, which counts as a call.
pub record IsChange {T U G C : Type 0} (w : World T G C) (before : ServerState T U G C) (id : ClientParts) (t : T) (after : ServerState T U G C) : Type 0 where
  pub step : Makes w before (Changed id t) false after
  pub accounted : IsWithinOffer w.sends → StaysAccountedFor w before step.0 after

-- And for a table that was to grow.
pub record IsGrowth {T U G C : Type 0} (w : World T G C) (before : BackendState T U G C) (rows : Growth) (answer : Result (Unit {0}) TableError)
    (after : BackendState T U G C) : Type 0 where
  pub step : Makes w before.server (Grown rows answer) after.refused after.server
  pub accounted : IsWithinOffer w.sends → StaysAccountedFor w before.server step.0 after.server
