use Rattle.wl_c.proofs.Calling.{lent}
use Rattle.wl_flat.specs.Guards.{Receives}
use Rattle.wl_flat.specs.declared.guards.Policy.{Policy}
use Rattle.wl_c.proofs.guard.passing.nb_guard_received.Goals as goal

pub returns-clause-call : goal.returns-clause-call
returns-clause-call c p is s t is_s is_t =
    let r = c.received_by-status.ensures.call s t is_s is_t in (
      r.0,
      r.1,
      lent (λ (q : Policy). Receives q c.args.side c.args.bytes.now c.args.descriptors.now s r.0 t) c.in-Some.ensures.taken c.deref.ensures is r.2,
    )
