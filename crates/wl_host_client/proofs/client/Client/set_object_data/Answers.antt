use Rattle.std.proofs.Common.{rules}
use Rattle.wl_host_client.proofs.client.Client.set_object_data.Goals as goal

-- the answer of the core is the witness
pub returns-clause-call : goal.returns-clause-call
returns-clause-call c = (c.set_data.result, search rules, search rules, search rules)
