use Rattle.std.proofs.Common.{rules}
use Rattle.wl_host_client.proofs.ClientCatching.{catches_none, catches_told}
use Rattle.wl_host_client.proofs.client.telling.Messages.catch_up.Goals as goal
use Rattle.wl_host_client.proofs.client.telling.Messages.catch_up.Goals.{in-Some, in-None}

pub returns : goal.returns
returns c = elim c.match-self.branch [
  | in-Some w ↦
      rw (w.self-inside-is, w.result-is)
      (catches_told c.args.self.now w.deref_mut.result.now w.catch_up.new.self c.args.unread _ w.catch_up.result (search rules) w.catch_up.ensures)
  | in-None w ↦ rw (w.self-inside-is, w.result-is) (catches_none c.args.self.now _ c.args.unread _ (search rules) (search rules))
]
