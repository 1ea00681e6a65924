use Rattle.std.proofs.Common.{◌≡◌, ◌<◌, ◌≤◌, ◌+◌, ◌∷◌, ◌++◌, [], length, refl, sym, ap, ◌∙◌, arith, subst}
use Rattle.std.specs.Prelude.{Some}
use Rattle.std.proofs.lemmas.Grind.{common_steps}
use Rattle.wl_queues.specs.Inside.Counts.{waiting_at}
use Rattle.wl_queues.specs.Inside.Objects.{object_of, references_of}
use Rattle.wl_queues.specs.Queues.{with_waiting}
use Rattle.wl_queues.proofs.Lists.{dropped-kept, waiting-kept, waiting-set, waiting-there}
use Rattle.wl_queues.proofs.Refusing.{accepted, refused-for-object}
use Rattle.wl_queues.proofs.queues.Queues.put.Goals as goal

pub returns-in-Some-clause-no_object : goal.returns-in-Some-clause-no_object
returns-in-Some-clause-no_object g c = λ says.
    let objects = c.args.self.now.objects in
    refused-for-object (object_of objects) (references_of objects) c.args.event (sym c.in-Some.ensures ∙ ap (λ e. Some e) says)

pub returns-in-Ok-clause-put : goal.returns-in-Ok-clause-put
returns-in-Ok-clause-put g c =
    let before = c.args.self.now in
    let qs = before.queues.items in
    let e = c.args.event in
    let small : length e.arguments.items + 1 ≤ 0xFFFFFFFFFFFFFFFF = grind (arith, e.arguments.ok, e.arguments.small) in
    let live = (accepted (object_of before.objects) (references_of before.objects) e small (sym c.in_default.ensures)).live in
    let i = c.get-queue.result.queue in
    let here : i ≡ (object_of before.objects e.sender).queue = ap (λ x. x.queue) c.get-queue.ensures in
    let lt : i < length qs = subst (λ n. n < length qs) (sym here) (before.counted.placed e.sender) in
    record {
      answers = (live, refl);
      leaves = record {
        objects = c.append.ensures.objects;
        queues = grind (arith, common_steps);
        is_dropped = λ n. dropped-kept qs i c.index_mut.result.now c.append.new.queue n lt c.index_mut.ensures.value c.append.ensures.kept;
        waiting = λ n.
            waiting-set qs i c.append.new.queue n lt
            ∙ (ap (λ ws. with_waiting i ws (waiting_at qs) n) (c.in-Ok.ensures.events ∙ ap (λ ws. ws ++ e ∷ []) (sym (waiting-there qs i c.index_mut.result.now lt c.index_mut.ensures.value)))
            ∙ ap (λ k. with_waiting k (waiting_at qs k ++ e ∷ []) (waiting_at qs) n) here);
        in_hand = refl;
        tickets = refl;
        failed = refl;
      };
    }

pub returns-in-Err-clause-refused : goal.returns-in-Err-clause-refused
returns-in-Err-clause-refused g c =
    let before = c.args.self.now in
    let qs = before.queues.items in
    let i = c.get-queue.result.queue in
    let here : i ≡ (object_of before.objects c.args.event.sender).queue = ap (λ x. x.queue) c.get-queue.ensures in
    let lt : i < length qs = subst (λ n. n < length qs) (sym here) (before.counted.placed c.args.event.sender) in
    record {
      objects = c.append.ensures.objects;
      queues = grind (arith, common_steps);
      is_dropped = λ n. dropped-kept qs i c.index_mut.result.now c.append.new.queue n lt c.index_mut.ensures.value c.append.ensures.kept;
      waiting = λ n. waiting-kept qs i c.index_mut.result.now c.append.new.queue n lt c.index_mut.ensures.value c.in-Err.ensures.refused;
      in_hand = refl;
      tickets = refl;
      failed = refl;
    }
