use Rattle.std.proofs.Common.{◌<◌, ◌∷◌, ◌++◌, [], length, drop, refl, sym, ap, ◌∙◌, arith, append-nil, Some, None}
use Rattle.std.proofs.lemmas.Bool.Decides.{nat_tests}
use Rattle.std.proofs.lemmas.Grind.{common_steps}
use Rattle.wl_queues.specs.Inside.Counts.{waiting_at}
use Rattle.wl_queues.specs.Queues.{with_waiting}
use Rattle.wl_queues.specs.States.{state_of}
use Rattle.wl_queues.proofs.Lists.{dropped-kept, dropped-there, same-sender, waiting-set, waiting-there}
use Rattle.wl_queues.proofs.States.{hands-found, outcome-found}
use Rattle.wl_queues.proofs.Tickets.{newest-named}
use Rattle.wl_queues.proofs.queues.Queues.next_of.Goals as goal

pub returns-then-self-clause-exhausted : goal.returns-then-self-clause-exhausted
returns-then-self-clause-exhausted g c =
    let before = c.args.self.now in
    let qs = before.queues.items in
    let queue = c.args.queue in
    let lt : queue < length qs = omega (arith, c.if-queue-len.false, c.len.ensures, before.queues.ok.0) in
    let hands = hands-found (state_of before) queue c.in-Some.sender c.index-2.result.now.events.items c.index.result.now.is_dropped c.is_live-is_alive.result
    (waiting-there qs queue c.index-2.result.now lt c.index-2.ensures) c.in-Some.ensures.sender (dropped-there qs queue c.index.result.now lt c.index.ensures)
    c.is_live-is_alive.ensures.value c.in_default-reason_against_handing.ensures.reason in
    (λ says. (hands, grind (arith, nat_tests, c.if-self.true)), λ lacks. refl)

pub returns-then-is_err-clause-memory : goal.returns-then-is_err-clause-memory
returns-then-is_err-clause-memory g c =
    let before = c.args.self.now in
    let qs = before.queues.items in
    let queue = c.args.queue in
    let lt : queue < length qs = omega (arith, c.if-queue-len.false, c.len.ensures, before.queues.ok.0) in
    let hands = hands-found (state_of before) queue c.in-Some.sender c.index-2.result.now.events.items c.index.result.now.is_dropped c.is_live-is_alive.result
    (waiting-there qs queue c.index-2.result.now lt c.index-2.ensures) c.in-Some.ensures.sender (dropped-there qs queue c.index.result.now lt c.index.ensures)
    c.is_live-is_alive.ensures.value c.in_default-reason_against_handing.ensures.reason in
    λ says. (hands, omega (arith, c.if-self.false))

pub returns-in-Some-reason_against_handing-clause-next : goal.returns-in-Some-reason_against_handing-clause-next
returns-in-Some-reason_against_handing-clause-next g c =
    let before = c.args.self.now in
    let qs = before.queues.items in
    let queue = c.args.queue in
    let lt : queue < length qs = omega (arith, c.if-queue-len.false, c.len.ensures, before.queues.ok.0) in
    let q = c.index_mut.result.now in
    let is = c.index_mut.ensures.value in
    let e = c.take_first-event.result in
    let later = c.take_first-event.new.queue.events.items in
    let first = waiting-there qs queue q lt is ∙ c.take_first-event.ensures.event in
    let found = waiting-there qs queue c.index-2.result.now lt c.index-2.ensures in
    let same = same-sender c.index-2.result.now.events.items c.in-Some.sender e later c.in-Some.ensures.sender (sym found ∙ first) in
    let dropped = dropped-there qs queue c.index.result.now lt c.index.ensures in
    record {
      answers = (
        (later, first),
        outcome-found (state_of before) queue c.in-Some.sender e (Some c.in-Some-reason_against_handing.reason) c.index.result.now.is_dropped c.is_live-is_alive.result
            same dropped c.is_live-is_alive.ensures.value c.in-Some-reason_against_handing.ensures.reason,
      );
      leaves = record {
        objects = c.release.ensures.objects;
        queues = grind (arith, common_steps);
        is_dropped = λ n. dropped-kept qs queue q c.take_first-event.new.queue n lt is c.take_first-event.ensures.kept;
        waiting = λ n. waiting-set qs queue c.take_first-event.new.queue n lt ∙ ap (λ ws. with_waiting queue ws (waiting_at qs) n) (sym (ap (λ ws. drop 1 ws) first));
        in_hand = sym (append-nil before.in_hand.items);
        tickets = omega arith;
        failed = refl;
      };
    }

pub returns-clause-next : goal.returns-clause-next
returns-clause-next g c =
    let before = c.args.self.now in
    let qs = before.queues.items in
    let queue = c.args.queue in
    let lt : queue < length qs = omega (arith, c.if-queue-len.false, c.len.ensures, before.queues.ok.0) in
    let q = c.index_mut-2.result.now in
    let is = c.index_mut-2.ensures.value in
    let e = c.take_first-event-2.result in
    let later = c.take_first-event-2.new.queue.events.items in
    let first = waiting-there qs queue q lt is ∙ c.take_first-event-2.ensures.event in
    let found = waiting-there qs queue c.index-2.result.now lt c.index-2.ensures in
    let same = same-sender c.index-2.result.now.events.items c.in-Some.sender e later c.in-Some.ensures.sender (sym found ∙ first) in
    let dropped = dropped-there qs queue c.index.result.now lt c.index.ensures in
    let in_hand = c.push_reserved.ensures.items ∙ ap (λ hs. hs ++ record { ticket = before.tickets; event = e } ∷ []) c.reserve.ensures.items in (
      e,
      record {
        answers = (
          (later, first),
          outcome-found (state_of before) queue c.in-Some.sender e None c.index.result.now.is_dropped c.is_live-is_alive.result
              same dropped c.is_live-is_alive.ensures.value c.in_default-reason_against_handing.ensures.reason,
        );
        leaves = record {
          objects = λ o. refl;
          queues = grind (arith, common_steps);
          is_dropped = λ n. dropped-kept qs queue q c.take_first-event-2.new.queue n lt is c.take_first-event-2.ensures.kept;
          waiting = λ n. waiting-set qs queue c.take_first-event-2.new.queue n lt ∙ ap (λ ws. with_waiting queue ws (waiting_at qs) n) (sym (ap (λ ws. drop 1 ws) first));
          in_hand = in_hand;
          tickets = refl;
          failed = refl;
        };
      },
      newest-named before.in_hand.items _ before.tickets e before.given_out in_hand,
    )
