use Rattle.std.proofs.Common.{refl}
use Rattle.wl_host.proofs.server.registries.tell_removal.Goals as goal

pub returns-clause-told : goal.returns-clause-told
returns-clause-told c = λ name args. (
  record c.args.event.now { sender_id = c.args.registry },
  c.send_event_lent-answer.new.self,
  record { sender = refl; opcode = c.requires.opcode; args = args },
  c.send_event_lent-answer.ensures.call,
  rw c.client.ensures at c.kill_untold.ensures,
)
