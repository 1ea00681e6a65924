use Rattle.std.proofs.Common.{arith, ap, length}
use Rattle.std.proofs.lemmas.Grind.{common_steps}
use Rattle.wl_wire.specs.Message.{content}
use Rattle.wl_wire.specs.Parse.{opcode_of, sender_of}
use Rattle.wl_wire.specs.Table.{message_row}
use Rattle.wl_link.specs.Store.{held}
use Rattle.wl_link.proofs.Calls.TakenLaws.{as_many, read_there}
use Rattle.wl_server_client.proofs.Readings.OneMessage.{read_in, row_read, sent_as}
use Rattle.wl_server_client.proofs.Readings.Texts.{free_looked_up}
use Rattle.wl_server_client.proofs.reading.handle_message.take_request.Goals as goal

-- what was read was there whole
pub request-requires-clause-room : goal.request-requires-clause-room
request-requires-clause-room g c =
    let read = rw c.as_slice-signature.ensures.value at c.in_ok-read_with_signature.ensures.read in
    let many = as_many _ _ (content c.read_with_signature.new.message) _ read in
    let there = read_there _ _ (content c.read_with_signature.new.message) _ read in
    omega (arith, many, c.in-Ok.ensures.room there, ap length c.make_room.ensures.empty)

pub request-requires-clause-can_make : goal.request-requires-clause-can_make
request-requires-clause-can_make g c =
    c.in-Ok.ensures.can_make
    (read_there _ _ (content c.read_with_signature.new.message) _ (rw c.as_slice-signature.ensures.value at c.in_ok-read_with_signature.ensures.read))

pub request-requires-clause-can_register : goal.request-requires-clause-can_register
request-requires-clause-can_register g c =
    c.in-Ok.ensures.can_register
    (read_there _ _ (content c.read_with_signature.new.message) _ (rw c.as_slice-signature.ensures.value at c.in_ok-read_with_signature.ensures.read))

-- the table is an accepted one
pub request-requires-clause-name : goal.request-requires-clause-name
request-requires-clause-name g c =
    let bytes = c.args.socket.now.incoming.bytes in
    free_looked_up c.args.around.now.protocol.now c.requires.front.accepted (held c.args.objects.now.map.store (sender_of bytes)) (opcode_of bytes)
    (message_row c.args.front.now.desc.now) c.requires.front.row

pub request-requires-clause-sender : goal.request-requires-clause-sender
request-requires-clause-sender g c = grind (arith, common_steps, held)

pub returns-clause-took : goal.returns-clause-took
returns-clause-took g c =
    let read = rw c.as_slice-signature.ensures.value at c.in_ok-read_with_signature.ensures.read in
    let m = content c.read_with_signature.new.message in
    let responds = rw (c.make_room.ensures.store, c.make_room.ensures.registries, c.make_room.ensures.serial) at c.request.ensures.responds in (
      m,
      message_row c.args.front.now.desc.now,
      read_in c.args.around.now.protocol.now c.args.objects.now.map.store c.args.socket.now c.args.front.now c.requires.front c.read_with_signature.new.self _ read,
      row_read c.args.around.now.protocol.now c.args.objects.now.map.store c.args.socket.now c.args.front.now c.requires.front c.read_with_signature.new.self m read,
      λ x core holds. rw
          (← sent_as c.args.around.now.protocol.now c.args.objects.now.map.store c.args.socket.now c.args.front.now c.requires.front
          c.read_with_signature.new.self m read x holds) (responds x core holds),
    )
