use Rattle.wl_bench.proofs.Slots.{does_dispatch}
use Rattle.wl_bench.proofs.bench.Bench.dispatch.Goals as goal

pub returns-clause-done : goal.returns-clause-done
returns-clause-done c =
    does_dispatch c.args.self.now c.dispatch_clients.new.self c.take_records.new.self c.args.number c.args.slots.now c.in_ok-clients.clients.items _
    c.in_ok-heard.heard.items _ _ c.in_ok-count.count c.in_ok-taken.taken.items _ _ c.in_ok-clients.ensures c.as_slice.ensures.value
    c.in_ok-count.ensures.done c.in_ok-heard.ensures c.as_slice-2.ensures.value c.in_ok-taken.ensures.taken c.as_slice-3.ensures.value
    c.as_slice-4.ensures.value c.in_ok-lines.ensures c.in_ok-count.ensures.clients c.in_ok-count.ensures.globals c.in_ok-taken.ensures.clients
    c.in_ok-taken.ensures.globals
