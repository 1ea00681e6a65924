use Rattle.std.proofs.Common.{arith, append-nil, ap, refl, []}
use Rattle.std.proofs.lemmas.List.{map-append}
use Rattle.wl_server_client.specs.declared.notes.queues.NoteNumbers.{NoteNumbers}
use Rattle.wl_server_client.proofs.CallSteps.Numbers.{gives_none}
use Rattle.wl_server_client.proofs.client.Client.kill.Goals as goal

pub returns-then-self-clause-killed : goal.returns-then-self-clause-killed
returns-then-self-clause-killed g c = rw (← c.self.view_is, c.if-self.true) ([], _, (refl, refl), rw append-nil refl)

pub returns-clause-killed : goal.returns-clause-killed
returns-clause-killed g c = rw (← c.self.view_is, c.if-self.false) (_, _, (refl, refl), rw (c.push.ensures.items, map-append) refl)

pub returns-clause-in_time : goal.returns-clause-in_time
returns-clause-in_time g c =
    rw (← c.self.view_is) (grind (arith, gives_none, c.push.ensures.in_time, ap (λ (n : NoteNumbers). n.waiting) c.push.ensures.numbers))
