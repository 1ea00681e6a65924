use Rattle.std.proofs.Common.{[], ◌∷◌, ap, map}
use Rattle.wl_server_client.proofs.notes.queues.MadeNotes.pop.Goals as goal

pub returns-clause-first : goal.returns-clause-first
returns-clause-first g c = (_ ∷ [], ap (map (λ n. n.0)) c.in_ok-happening.ensures.items)
