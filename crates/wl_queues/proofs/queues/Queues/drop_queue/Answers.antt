use Rattle.std.proofs.Common.{refl, ap, arith, rules, ◌<◌, ◌==◌, ◌∙◌, if◌then◌else◌}
use Rattle.std.proofs.lemmas.Grind.{common_steps}
use Rattle.wl_queues.specs.Inside.Counts.{dropped_at}
use Rattle.wl_queues.specs.Queues.{IsOpen}
use Rattle.wl_queues.specs.States.{state_of}
use Rattle.wl_queues.proofs.Lists.{dropped-set, waiting-kept}
use Rattle.wl_queues.proofs.queues.Queues.drop_queue.Goals as goal

pub returns-clause-dropped : goal.returns-clause-dropped
returns-clause-dropped g c =
    let before = c.args.self.now in
    let is_there : IsOpen (state_of before) c.args.queue = search rules in
    let some : 0 < c.args.queue = omega arith in
    record {
      answers = (is_there, some);
      leaves = record {
        objects = c.leave_queue.ensures.objects;
        queues = grind (arith, common_steps);
        is_dropped = λ n. dropped-set before.queues.items c.args.queue c.drop_one.new.queue n is_there.made
            ∙ ap (λ b. if n == c.args.queue then b else dropped_at before.queues.items n) c.drop_one.ensures.dropped;
        waiting = λ n. waiting-kept before.queues.items c.args.queue c.index_mut.result.now c.drop_one.new.queue n is_there.made c.index_mut.ensures.value c.drop_one.ensures.events;
        in_hand = refl;
        tickets = refl;
        failed = refl;
      };
    }
