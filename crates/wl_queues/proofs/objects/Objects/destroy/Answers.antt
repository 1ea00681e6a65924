use Rattle.wl_queues.proofs.Slots.{listed-destroyed}
use Rattle.wl_queues.proofs.objects.Objects.destroy.Goals as goal

pub invariant_of-self : goal.invariant_of-self
invariant_of-self c =
    let before = c.args.self.now in
    record {
      listed = listed-destroyed before.slots.items before.unused c.push_back_reserved.new.self c.args.object c.index_mut.result.now c.index.result.now c.requires
          c.index_mut.ensures.value c.index.ensures before.listed c.if-references-eq0.true c.push_back_reserved.ensures.items c.push_back_reserved.ensures.len c.push_back_reserved.ensures.capacity;
    }
