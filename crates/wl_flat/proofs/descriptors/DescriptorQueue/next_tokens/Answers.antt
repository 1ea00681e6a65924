use Rattle.std.proofs.Common.{rules, arith}
use Rattle.wl_flat.proofs.Queues.{tokens_more}
use Rattle.wl_flat.proofs.descriptors.DescriptorQueue.next_tokens.Goals as goal

pub loop-index-preserved : goal.loop-index-preserved
loop-index-preserved c =
    let l = c.loop-index in
    record {
      written = tokens_more c.args.self.now l.index l.tokens _ (omega arith) l.invariant.written (search rules);
      next = omega arith;
      same_length = search rules;
    }
