use Rattle.std.proofs.Common.{sym, ◌∙◌}
use Rattle.wl_queues.proofs.Slots.{listed-fewer, listed-last}
use Rattle.wl_queues.proofs.objects.Objects.release.Goals as goal

pub invariant_of-self : goal.invariant_of-self
invariant_of-self c =
    let before = c.args.self.now in
    record {
      listed = listed-last before.slots.items before.unused c.push_back_reserved.new.self c.args.object c.index_mut.result.now c.index.result.now c.requires
          c.index_mut.ensures.value c.index.ensures before.listed (sym c.is_last.ensures ∙ c.if-is_last.true) c.push_back_reserved.ensures.items c.push_back_reserved.ensures.len c.push_back_reserved.ensures.capacity;
    }

pub invariant_of-self-else-is_last : goal.invariant_of-self-else-is_last
invariant_of-self-else-is_last c =
    let before = c.args.self.now in
    record {
      listed = listed-fewer before.slots.items before.unused c.args.object c.index_mut.result.now c.index.result.now c.requires
          c.index_mut.ensures.value c.index.ensures before.listed (sym c.is_last.ensures ∙ c.if-is_last.false);
    }
