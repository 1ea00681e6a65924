use Rattle.std.proofs.Common.{refl, rules, arith}
use Rattle.wl_flat.specs.Flat.{flat_client}
use Rattle.wl_host.proofs.Filling.{puts_all}
use Rattle.wl_host.proofs.server.Server.list_clients.Goals as goal

-- the closure put each client into the memory
pub returns-clause-list : goal.returns-clause-list
returns-clause-list c =
    let all = puts_all flat_client _ (λ p x q s. search rules) _ _ _ refl (omega arith) c.with_all_clients.ensures in
    let list = all.list in let same = all.same_lent in grind arith

pub returns-clause-count : goal.returns-clause-count
returns-clause-count c =
    let all = puts_all flat_client _ (λ p x q s. search rules) _ _ _ refl (omega arith) c.with_all_clients.ensures in
    let count = all.count in let same = all.same_count in grind arith
