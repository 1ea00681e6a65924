use Rattle.std.proofs.Common.{◌≡◌, ap}
use Rattle.std.specs.Result.{is_err}
use Rattle.wl_host.proofs.Claiming.{takes, takes_not}
use Rattle.wl_host.specs.Server.{ServerState}
use Rattle.wl_host.proofs.server.Server.take_object.Goals as goal

pub returns-in-Err-clause-call : goal.returns-in-Err-clause-call
returns-in-Err-clause-call c =
    let v : c.self.inside.core ≡ c.args.self.now.core = ap (λ (s : ServerState). s.core) c.self.view_is in
    rw c.from.ensures (takes_not c.args.self.now.core _ c.args.object.now c.args.version c.args.user_data c.in-Err.error
    (rw (← v, ← c.resource-id.ensures.id) c.in-Err.ensures.call))

pub returns-clause-call : goal.returns-clause-call
returns-clause-call c =
    let v : c.self.inside.core ≡ c.args.self.now.core = ap (λ (s : ServerState). s.core) c.self.view_is in
    takes c.args.self.now.core c.set_object_version.new.self c.set_object_data.new.self c.args.object.now c.args.version c.args.user_data
    c.set_object_version.result c.set_object_data.result (ap is_err c.in_default.is)
    (rw (← v, ← c.resource-id.ensures.id) c.set_object_version.ensures.call)
    (rw (← c.resource-id.ensures.id) c.set_object_data.ensures.call)
