use Rattle.std.proofs.Common.{◌≡◌, ◌<◌, length, false, rules}
use Rattle.std.proofs.Math.ListN.{get_or}
use Rattle.wl_host.proofs.Slots.{slots_added}
use Rattle.wl_host.proofs.server.slots.SlotQueue.add.Goals as goal

pub invariant_of-self : goal.invariant_of-self
invariant_of-self c =
    let flag : get_or c.self.inside.is_among.items c.args.slot false ≡ false = cc in
    let known : c.args.slot < length c.self.inside.is_among.items = search rules in
    rw (c.push_back_reserved.ensures.items, c.push_back_reserved.ensures.len, c.push_back_reserved.ensures.capacity) (slots_added _ _ _ _ _ c.self.invariant known flag)
