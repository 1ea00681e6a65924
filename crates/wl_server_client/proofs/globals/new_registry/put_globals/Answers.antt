use Rattle.std.proofs.Common.{◌∙◌, sym}
use Rattle.std.specs.FinMap.{entries}
use Rattle.wl_server_client.specs.Part.{id_of}
use Rattle.wl_server_client.specs.Inside.ReadingLoop.{around_of}
use Rattle.wl_server_client.proofs.GlobalCalls.Announcing.{told_begins, told_failed, told_one}
use Rattle.wl_server_client.proofs.globals.new_registry.put_globals.Goals as goal

pub loop-name-init : goal.loop-name-init
loop-name-init g c = record {
  told = rw (c.all_objects-globals.ensures.objects)
      (told_begins g.T.Transport.sends (around_of g.G.GlobalHandler.views c.args.around.now) c.args.client_data.now
      (id_of c.args.registry.now) c.args.socket.now _ c.blank_global_message-message.ensures.room (entries c.args.around.now.globals.now.store.objects));
  sender = c.blank_global_message-message.ensures.sender ∙ c.protocol_id.ensures;
  opcode = c.blank_global_message-message.ensures.opcode;
  args = c.blank_global_message-message.ensures.args;
}

pub loop-name-preserved-in_default-wrote : goal.loop-name-preserved-in_default-wrote
loop-name-preserved-in_default-wrote g c = record {
  told = told_one g.T.Transport.sends (around_of g.G.GlobalHandler.views c.args.around.now) c.args.client_data.now
      (id_of c.args.registry.now) c.args.socket.now c.loop-name.socket c.put_global-wrote.new.socket _ _ _
      (c.in-Some.name, c.in-Some.global.now) c.loop-name.globals c.next.new.self c.in-Some.ensures.steps
      (sym c.is_shown.ensures ∙ c.if-is_shown.true) c.in_default-wrote.ensures.room
      (rw (← c.loop-name.invariant.sender) (c.in_default-wrote.ensures.puts c.args.registry.now.serial)) c.loop-name.invariant.told;
  sender = c.in_default-wrote.ensures.sender ∙ c.loop-name.invariant.sender;
  opcode = c.in_default-wrote.ensures.opcode;
  args = c.in_default-wrote.ensures.args;
}

pub returns-in-Err : goal.returns-in-Err
returns-in-Err g c =
    told_failed g.T.Transport.sends (around_of g.G.GlobalHandler.views c.args.around.now) c.args.client_data.now
    (id_of c.args.registry.now) c.args.socket.now c.loop-name.socket c.put_global-wrote.new.socket _ _
    (c.in-Some.name, c.in-Some.global.now) c.loop-name.globals c.next.new.self c.in-Err.fault c.in-Some.ensures.steps
    (sym c.is_shown.ensures ∙ c.if-is_shown.true)
    (rw (← c.loop-name.invariant.sender) (c.in-Err.ensures.puts c.args.registry.now.serial)) c.loop-name.invariant.told
