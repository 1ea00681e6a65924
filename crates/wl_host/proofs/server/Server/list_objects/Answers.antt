use Rattle.std.proofs.Common.{refl, rules, arith}
use Rattle.wl_flat.specs.Flat.{flat_resource}
use Rattle.wl_host.proofs.Filling.{puts_all, found_all}
use Rattle.wl_host.proofs.server.Server.list_objects.Goals as goal

-- the closure put each object into the memory
pub returns : goal.returns
returns c = rw (← c.self.view_is) (found_all _ _ _ _ _ _ _ c.with_all_objects_for.ensures c.in_ok-with_all_objects_for.was (λ ids folds.
    let all = puts_all flat_resource _ (λ p x q s. search rules) ids _ _ refl (omega arith) folds in
    let list = all.list in let same = all.same_lent in let count = all.count in let same_count = all.same_count in (grind arith, grind arith)))
