use Rattle.std.proofs.Common.{refl}
use Rattle.wl_queues.specs.States.{state_of}
use Rattle.wl_queues.proofs.States.{none-unused, told-does, unused-of}
use Rattle.wl_queues.proofs.queues.Queues.next_unused.Goals as goal

pub returns-clause-unused : goal.returns-clause-unused
returns-clause-unused g c =
    let before = c.args.self.now in
    told-does (state_of before) _ c.next_unused.result (unused-of before c.next_unused.result c.next_unused.ensures.unused) c.next_unused.ensures.content c.next_unused.ensures.objects refl (λ n. refl) (λ n. refl)
    refl refl refl

pub returns-clause-none : goal.returns-clause-none
returns-clause-none g c = none-unused c.args.self.now c.next_unused.result c.next_unused.ensures.none
