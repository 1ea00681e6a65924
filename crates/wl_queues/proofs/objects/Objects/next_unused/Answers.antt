use Rattle.std.proofs.Common.{arith}
use Rattle.wl_queues.proofs.Slots.{first-unused, slot-unused}
use Rattle.wl_queues.proofs.objects.Objects.next_unused.Goals as goal

pub index_mut-slot-requires : goal.index_mut-slot-requires
index_mut-slot-requires c =
    let before = c.args.self.now in
    let o = c.in_ok-object.object in
    let lt = slot-unused before.slots.items o (first-unused before.slots.items before.unused o c.pop_front.new.self.items before.listed c.in_ok-object.ensures.items) in
    omega (arith, lt, before.slots.ok)
