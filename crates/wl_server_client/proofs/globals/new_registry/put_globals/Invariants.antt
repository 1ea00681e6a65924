use Rattle.std.proofs.Common.{◌≡◌, length}
use Rattle.wl_server_client.specs.Globals.{shown}
use Rattle.wl_server_client.specs.Part.{id_of}
use Rattle.wl_server_client.specs.Telling.{introductions}
use Rattle.wl_server_client.specs.Inside.News.{room_in}
use Rattle.wl_server_client.specs.Inside.ReadingLoop.{around_of}
use Rattle.wl_server_client.proofs.GlobalCalls.Announcing.{ToldTo}
use Rattle.wl_server_client.proofs.globals.new_registry.put_globals.Given as goal

-- what is left of the globals is not told yet
abbrev pub invariant-loop-name : goal.invariant-loop-name
invariant-loop-name g l = record {
  told : ToldTo g.T.Transport.sends (around_of g.G.GlobalHandler.views l.fn.around) l.fn.client_data (id_of l.fn.registry) l.fn.socket
      (introductions l.fn.around.protocol.now (id_of l.fn.registry) 0
      (shown g.G.GlobalHandler.views (around_of g.G.GlobalHandler.views l.fn.around).globals l.fn.around.client l.fn.client_data))
      l.socket (room_in l.message.args.items) l.globals;
  sender : l.message.sender_id ≡ l.fn.registry.number;
  opcode : l.message.opcode ≡ 0;
  args : length l.message.args.items ≡ 3;
}
