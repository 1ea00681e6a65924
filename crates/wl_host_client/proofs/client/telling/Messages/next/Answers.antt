use Rattle.std.proofs.Common.{ap, refl, rules}
use Rattle.wl_host_client.proofs.ClientCatching.{tells_none, tells_told}
use Rattle.wl_flat.specs.Told.{LentTold}
use Rattle.wl_flat.specs.declared.flat.FlatTold.{FlatTold}
use Rattle.wl_host_client.proofs.client.telling.Messages.next.Goals as goal
use Rattle.wl_host_client.proofs.client.telling.Messages.next.Goals.{in-Some, in-None}

pub returns : goal.returns
returns c = elim c.match-self.branch [
  | in-Some w ↦
      rw (w.self-inside-is, w.result-is, w.out-is, w.arguments-is, w.bytes-is)
      (tells_told c.args.self.now w.deref_mut.result.now w.next.new.self c.args.table.now _ w.next.result _ (search rules) w.next.ensures)
  | in-None w ↦
      rw (w.self-inside-is, w.result-is, w.out-is, w.arguments-is, w.bytes-is)
      (tells_none c.args.self.now _ c.args.table.now _ _ _ (search rules) (search rules) refl
      (ap (λ (o : FlatTold). let x : LentTold = record { out = o; arguments = c.args.arguments.now; bytes = c.args.bytes.now } in x) w.none.ensures))
]
