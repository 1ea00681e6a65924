use Rattle.std.proofs.Common.{◌∙◌, sym, ap}
use Rattle.wl_client.specs.Requests.{session_content, wire_message}
use Rattle.wl_client.proofs.Sending.{request_numbered, sent_lacking, sent_done}
use Rattle.wl_client.proofs.backend.Backend.send.Goals as goal

pub returns-then-is_err-2 : goal.returns-then-is_err-2
returns-then-is_err-2 g c =
    let m = session_content c.args.message.now in
    let wire = request_numbered c.number_of-number.result c.args.message.now ∙ ap (λ n. wire_message n m) c.number_of-number.ensures in
    rw (← c.self.view_is)
    (sent_lacking g.T.Transport.sends _ m c.args.new.now _ c.write.result c.write.new.socket c.write.new.error wire c.write.ensures _ _ _ c.make_room-room.ensures.store c.make_room-room.ensures.notes (sym c.is_err-2.ensures.value ∙ c.if-is_err-2.true))

pub returns : goal.returns
returns g c =
    let m = session_content c.args.message.now in
    let wire = request_numbered c.number_of-number.result c.args.message.now ∙ ap (λ n. wire_message n m) c.number_of-number.ensures in
    rw (← c.self.view_is)
    (sent_done g.T.Transport.sends _ m c.args.new.now _ c.write.result c.write.new.socket c.write.new.error wire c.write.ensures c.args.is_destructor _ _ _ _ _ _ _ _ (rw (← c.self.view_is) at c.requires) c.ended_sender-ended.ensures c.make_room-room.ensures.store c.put_new-id.ensures.store c.end_sender.ensures.store c.make_room-room.ensures.notes c.end_sender.ensures.notes c.put_new-id.ensures.serial c.put_new-id.ensures.id (sym c.is_err-2.ensures.value ∙ c.if-is_err-2.false))
