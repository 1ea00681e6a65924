use Rattle.std.proofs.Common.{◌≡◌, Ok, false, ap, subst}
use Rattle.wl_bench.specs.Bench.{BenchServer, BenchState, Dispatches}
use Rattle.wl_bench.proofs.Slots.{dispatched}
use Rattle.wl_bench.proofs.bench.Bench.dispatch_clients.Goals as goal

pub returns-clause-done : goal.returns-clause-done
returns-clause-done c =
    let is : c.dispatch_all_clients-answer.result ≡ Ok c.in-Ok.count = cc in
    let refused : c.dispatch_all_clients-answer.new.self.refused ≡ false = cc in
    subst (λ (s : BenchServer). Dispatches s c.args.number c.args.clients.now c.in-Ok.count c.dispatch_all_clients-answer.new.self.server)
    (ap (λ (b : BenchState). b.server) c.self.view_is)
    (dispatched _ c.args.number c.args.clients.now c.in-Ok.count _ _ _ c.dispatch_all_clients-answer.ensures.call is refused)
