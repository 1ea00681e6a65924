use Rattle.std.proofs.Common.{refl, ap, ◌∙◌, arith}
use Rattle.std.proofs.lemmas.Grind.{common_steps}
use Rattle.wl_queues.specs.Inside.Counts.{dropped_at, waiting_at}
use Rattle.wl_queues.proofs.Lists.{dropped-push, waiting-push}
use Rattle.wl_queues.proofs.queues.Queues.new_queue.Goals as goal

pub returns-clause-made : goal.returns-clause-made
returns-clause-made g c =
    let before = c.args.self.now in
    let items = c.in_ok-push.ensures.items in
    record {
      answers = omega (arith, c.len-queue.ensures, before.queues.ok.0);
      leaves = record {
        objects = λ o. refl;
        queues = grind (arith, common_steps, items);
        is_dropped = λ n. ap (λ qs. dropped_at qs n) items ∙ dropped-push before.queues.items _ n refl;
        waiting = λ n. ap (λ qs. waiting_at qs n) items ∙ waiting-push before.queues.items _ n c.new.ensures.items;
        in_hand = refl;
        tickets = refl;
        failed = refl;
      };
    }
