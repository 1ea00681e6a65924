use Rattle.std.proofs.Common.{refl, ap, map, sym, arith}
use Rattle.wl_server_client.proofs.CallSteps.Numbers.{gives_none, in_time_same}
use Rattle.wl_server_client.proofs.Readings.Finishing.{ends_taken}
use Rattle.wl_server_client.proofs.client.Client.end_sender.Goals as goal

pub returns-clause-ends : goal.returns-clause-ends
returns-clause-ends g c =
    rw (← c.self.view_is, c.take_out_made.ensures.serial, sym c.if-is_out_of_memory.ensures)
    (ends_taken g.T.Transport.sends c.args.id.now _ c.args.sender.now c.args.is_destructor c.in-Some.object.now c.protocol_id-number.result c.put_delete_id-wrote.result
    c.put_delete_id-wrote.new.socket _ _ _ _ _ c.in-Some.ensures c.protocol_id-number.ensures c.put_delete_id-wrote.ensures c.if-is_out_of_memory.ensures
    c.take_out_made.ensures.removed c.take_out_made.ensures.left (ap (map (λ m. m.1)) c.reserve_end.ensures.items))

pub returns-in_default-reserve_end-clause-in_time : goal.returns-in_default-reserve_end-clause-in_time
returns-in_default-reserve_end-clause-in_time g c = rw (← c.self.view_is) (in_time_same _ _ _ _ (cc c.reserve_end.ensures.items) refl)

pub returns-then-is_out_of_memory-clause-in_time : goal.returns-then-is_out_of_memory-clause-in_time
returns-then-is_out_of_memory-clause-in_time g c = rw (← c.self.view_is) (in_time_same _ _ _ _ (cc c.reserve_end.ensures.items) refl)

pub returns-clause-in_time : goal.returns-clause-in_time
returns-clause-in_time g c = grind (arith, gives_none, map)
