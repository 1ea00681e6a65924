use Rattle.std.proofs.Common.{rules}
use Rattle.wl_host_client.proofs.client.Client.reclaim.Goals as goal

-- the answer of the core is the witness
pub returns-clause-call : goal.returns-clause-call
returns-clause-call c = (c.reclaim.result, search rules, search rules, search rules)
