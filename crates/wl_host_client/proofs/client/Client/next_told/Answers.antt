use Rattle.std.proofs.Common.{ap}
use Rattle.wl_host_client.proofs.ClientCatching.{tells_caught, tells_nothing}
use Rattle.wl_flat.proofs.Queues.{conserves_out}
use Rattle.wl_flat.specs.Told.{LentTold}
use Rattle.wl_flat.specs.declared.flat.FlatTold.{FlatTold}
use Rattle.wl_host_client.proofs.client.Client.next_told.Goals as goal

pub returns-in-Ok-clause-told : goal.returns-in-Ok-clause-told
returns-in-Ok-clause-told c = tells_caught _ _ _ _ _ _ c.in-Ok.ensures.caught c.tell_next.ensures.told

pub returns-in-Ok-clause-descriptors : goal.returns-in-Ok-clause-descriptors
returns-in-Ok-clause-descriptors c = conserves_out c.in-Ok.ensures.descriptors c.tell_next.ensures.descriptors

pub returns-in-Err-clause-told : goal.returns-in-Err-clause-told
returns-in-Err-clause-told c =
    tells_nothing _ _ _ _ _ c.in-Err.ensures.caught
    (ap (λ (o : FlatTold). let x : LentTold = record { out = o; arguments = c.args.arguments.now; bytes = c.args.bytes.now } in x) c.none.ensures)
