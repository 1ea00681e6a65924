use Rattle.std.proofs.Common.{◌≡◌, ◌≢◌, None, arith, get_or}
use Rattle.std.proofs.lemmas.Grind.{common_steps}
use Rattle.wl_bench.specs.Bench.{latest}
use Rattle.wl_bench.proofs.Slots.{has_more, lacks_at, lacks_none}
use Rattle.wl_bench.proofs.bench.Bench.has_clients.Goals as goal

pub loop-slot-init : goal.loop-slot-init
loop-slot-init c = λ k few. absurd (omega (arith, few))

pub loop-slot-preserved : goal.loop-slot-preserved
loop-slot-preserved c =
    let some : latest (get_or c.args.slots.now c.loop-slot.slot-index 0) c.args.self.now.clients ≢ None = grind (arith, common_steps) in
    has_more c.args.self.now c.args.slots.now c.loop-slot.slot-index c.loop-slot.invariant some

pub returns-then-is_none : goal.returns-then-is_none
returns-then-is_none c =
    let none : latest (get_or c.args.slots.now c.loop-slot.slot-index 0) c.args.self.now.clients ≡ None = grind (arith, common_steps) in
    lacks_at c.args.self.now c.args.slots.now c.loop-slot.slot-index c.loop-slot-test.true none

pub returns : goal.returns
returns c = lacks_none c.args.self.now c.args.slots.now c.loop-slot.slot-index c.loop-slot.invariant c.loop-slot-test.false
