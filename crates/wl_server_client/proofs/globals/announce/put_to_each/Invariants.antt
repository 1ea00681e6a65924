use Rattle.std.proofs.Common.{◌≡◌, Bool, Ok}
use Rattle.wl_link.specs.Identity.{Id}
use Rattle.wl_server_client.specs.Telling.{by_object, making}
use Rattle.wl_server_client.proofs.GlobalCalls.PutEach.{PutsFirst}
use Rattle.wl_server_client.proofs.globals.announce.put_to_each.Given as goal

abbrev pub invariant-loop-registry : goal.invariant-loop-registry
invariant-loop-registry g l = record {
  puts : (makes : Id → Bool) → PutsFirst g.T.Transport.sends
      (λ r. making (makes r) (by_object r l.fn.message.opcode l.fn.message.args.items)) l.fn.socket l.registries l.registry-index (Ok tt) l.socket;
  opcode : l.message.opcode ≡ l.fn.message.opcode;
  args : l.message.args.items ≡ l.fn.message.args.items;
}
