use Rattle.std.proofs.Common.{◌≡◌, None, arith, get_or}
use Rattle.std.proofs.lemmas.Grind.{common_steps}
use Rattle.wl_bench.specs.Bench.{latest}
use Rattle.wl_bench.proofs.Slots.{lacks_at, no_other}
use Rattle.wl_bench.proofs.bench.Bench.clients_at.Goals as goal

pub unreachable-requires : goal.unreachable-requires
unreachable-requires c =
    let none : c.get.result ≡ None = no_other c.get.result c.in_default.not-Some in
    let here : latest (get_or c.args.slots.now c.loop-slot.slot-index 0) c.args.self.now.clients ≡ None = grind (arith, common_steps, none) in
    c.requires (lacks_at c.args.self.now c.args.slots.now c.loop-slot.slot-index c.loop-slot-test.true here)
