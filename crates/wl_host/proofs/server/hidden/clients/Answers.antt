use Rattle.std.proofs.Common.{rules}
use Rattle.wl_flat.specs.Flat.{flat_client}
use Rattle.wl_host.proofs.server.hidden.clients.Goals as goal

-- two ids compare equal if their parts are equal
pub returns : goal.returns
returns c = λ id. search (rules, c.in_ok-set.ensures (flat_client id))
