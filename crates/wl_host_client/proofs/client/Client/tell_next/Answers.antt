use Rattle.wl_host_client.proofs.ClientCatching.{tells_by}
use Rattle.wl_host_client.specs.contracts.client.Client.{the_view}
use Rattle.wl_host_client.proofs.client.Client.tell_next.Goals as goal

pub returns-clause-told : goal.returns-clause-told
returns-clause-told c = rw (← c.self.view_is) (tells_by (the_view c.self.inside) _ _ _ _ c.next.new.self c.protocol.ensures c.next.ensures)
