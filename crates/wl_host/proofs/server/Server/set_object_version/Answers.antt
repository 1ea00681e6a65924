use Rattle.std.proofs.Common.{rules}
use Rattle.wl_host.proofs.server.Server.set_object_version.Goals as goal

-- the answer of the core is the witness
pub returns-clause-call : goal.returns-clause-call
returns-clause-call c = (c.set_object_version.result, search rules, search rules)
